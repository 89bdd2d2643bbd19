-- Nodes that the root does not reach: which sorts they can have by themselves.
use Rattle.std.proofs.Common.{◌≡◌, ℕ, zero, suc, ◌+◌, ◌<◌, ◌≤◌, ◌⊎◌, Bool, true, false, ◌||◌, ◌&&◌, nat_eq, List, [], ◌∷◌, ◌++◌, length, get_or, take, Decides, if◌then◌else◌, Contains, Option, None, Some, option_map, option_and_then, unwrap_or, slice_get, refl, sym, ap, ap₂, subst, ◌∙◌, inl, inr, arith, true≢false}
use Rattle.std.specs.List.{AllZip, list_any}
use Rattle.std.proofs.lemmas.Bool.Decides.{Decides-eqb, Decides-and}
use Rattle.std.proofs.lemmas.Option.{none-some, same_Some, slice_get_within, slice_get-get_or}
use Rattle.std.proofs.lemmas.List.Elements.{Contains-append_left, Contains-append_right, Contains-append_cases}
use Rattle.ct_lemmas.proofs.Lists.{slice_get-append_left, slice_get-there}
use Rattle.ct_lemmas.proofs.Pairs.{AllZip-weaker, AllZip-push}
use Rattle.ct_lemmas.proofs.Contained.{Contains-none, Contains-cons, Contains-first, Contains-rest, slice_get-from_Contains, Contains-from_slice_get}
use Rattle.ct_sorts.specs.declared.ids.SortId.{SortId}
use Rattle.ct_sorts.specs.Declarations.{Declarations, IsSort}
use Rattle.ct_sexpr.specs.Expression.{Expression, Expressions, none, more}
use Rattle.ct_values.specs.declared.node.NodeId.{NodeId}
use Rattle.ct_values.specs.declared.node.Node.{Node}
use Rattle.ct_values.specs.Graph.{node_children}
use Rattle.indexmap.specs.IndexSet.{insert_key}
use Rattle.ct_sorts.specs.Grown.{Begins}
use Rattle.ct_sorts.proofs.PieceLemmas.{Begins-self, Begins-trans}
use Rattle.ct_readback.specs.declared.descent.Pair.{Pair}
use Rattle.ct_readback.specs.contracts.descent.PairPartialEq.TheImpl as derived
use Rattle.ct_readback.specs.Parts.{nth, count}
use Rattle.ct_readback.specs.GraphText.{node_text, node_at}
use Rattle.ct_readback.specs.Nodes.{said_at, field_sorts, FitsAt, AreFit, CanHave}
use Rattle.ct_readback.specs.Descent.{HasSort, AreReached, AreKnown, HasPair, AreClosed, AreAsked, IsAsked, IsUnfit, IsSaidNode, AreSorts, Adds, asked_by}
use Rattle.ct_readback.proofs.DescentLemmas.{pair_of, take_at}
use Rattle.ct_readback.proofs.ReachedLemmas.{FieldsOver, HaveSaidHeads, asked_sorts, pairs_from}

-- ---- tests for what is said of lists

-- the node has the sort
abbrev has_test : List (Option SortId) → ℕ → SortId → Bool
has_test sorts i s = unwrap_or (option_map (λ (o : Option SortId). unwrap_or (option_map (λ (t : SortId). nat_eq t.0 s.0) o) false) (slice_get sorts i)) false

has_tested : (sorts : List (Option SortId)) (i : ℕ) (s : SortId) → HasSort sorts i s → has_test sorts i s ≡ true
has_tested sorts i s has =
    ap (λ (x : Option (Option SortId)). unwrap_or (option_map (λ (o : Option SortId). unwrap_or (option_map (λ (t : SortId). nat_eq t.0 s.0) o) false) x) false) has ∙ (Decides-eqb s.0 s.0).1 refl

tested_has : (sorts : List (Option SortId)) (i : ℕ) (s : SortId) → has_test sorts i s ≡ true → HasSort sorts i s
tested_has sorts i s test = by (slice_get sorts i) refl test
  where
    by : (x : Option (Option SortId)) → slice_get sorts i ≡ x → unwrap_or (option_map (λ (o : Option SortId). unwrap_or (option_map (λ (t : SortId). nat_eq t.0 s.0) o) false) x) false ≡ true → HasSort sorts i s
    by None is e = absurd (true≢false (sym e))
    by (Some None) is e = absurd (true≢false (sym e))
    by (Some (Some t)) is e = is ∙ ap (λ n. Some (Some (record { 0 = n }))) ((Decides-eqb t.0 s.0).0 e)

-- the pair is in the list
abbrev is_pair : ℕ → SortId → Pair → Bool
is_pair i s p = nat_eq p.node i && nat_eq p.sort s.0

pair_tested : (pairs : List Pair) (i : ℕ) (s : SortId) → HasPair pairs (i, s) → list_any (is_pair i s) pairs ≡ true
pair_tested [] i s inside = absurd (Contains-none (record { node = i; sort = s.0 }) inside)
pair_tested (p ∷ pairs) i s inside =
    elim (Contains-cons p pairs (record { node = i; sort = s.0 }) inside) [
      | inl same ↦ ap₂ (λ (m n : ℕ). (nat_eq m i && nat_eq n s.0) || list_any (is_pair i s) pairs) (ap (λ (q : Pair). q.node) same) (ap (λ (q : Pair). q.sort) same) ∙ here
      | inr later ↦ or_true (is_pair i s p) (list_any (is_pair i s) pairs) (pair_tested pairs i s later)
    ]
  where
    here : ((nat_eq i i && nat_eq s.0 s.0) || list_any (is_pair i s) pairs) ≡ true
    here = ap₂ (λ (a b : Bool). (a && b) || list_any (is_pair i s) pairs) ((Decides-eqb i i).1 refl) ((Decides-eqb s.0 s.0).1 refl)

    or_true : (a b : Bool) → b ≡ true → (a || b) ≡ true
    or_true true b e = refl
    or_true false b e = e

tested_pair : (pairs : List Pair) (i : ℕ) (s : SortId) → list_any (is_pair i s) pairs ≡ true → HasPair pairs (i, s)
tested_pair [] i s test = absurd (true≢false (sym test))
tested_pair (p ∷ pairs) i s test = by (λ e. tested_pair pairs i s e) (nat_eq p.node i) (nat_eq p.sort s.0) refl refl test
  where
    same : p.node ≡ i → p.sort ≡ s.0 → p ≡ (record { node = i; sort = s.0 })
    same m n = ap₂ (λ (a b : ℕ). record { node = a; sort = b }) m n

    by : (list_any (is_pair i s) pairs ≡ true → HasPair pairs (i, s)) → (a b : Bool) → nat_eq p.node i ≡ a → nat_eq p.sort s.0 ≡ b → ((a && b) || list_any (is_pair i s) pairs) ≡ true → HasPair (p ∷ pairs) (i, s)
    by rest true true is_i is_s e = subst (λ (q : Pair). Contains (p ∷ pairs) q) (same ((Decides-eqb p.node i).0 is_i) ((Decides-eqb p.sort s.0).0 is_s)) (Contains-first p pairs)
    by rest true false is_i is_s e = Contains-rest p pairs (record { node = i; sort = s.0 }) (rest e)
    by rest false b is_i is_s e = Contains-rest p pairs (record { node = i; sort = s.0 }) (rest e)

-- ---- pairs that are added

abbrev pub made : ℕ → SortId → Pair
made n s = record { node = n; sort = s.0 }

Decides-same_pair : (a b : Pair) → Decides (derived.eq-value.it a b) (a ≡ b)
Decides-same_pair a b =
    let both = Decides-and (nat_eq a.node b.node) (nat_eq a.sort b.sort) (Decides-eqb a.node b.node) (Decides-eqb a.sort b.sort) in
    (λ h i. record { node = (both.0 h).0 i; sort = (both.0 h).1 i }, λ e. both.1 (ap (λ (p : Pair). p.node) e, ap (λ (p : Pair). p.sort) e))

any_contains : (k : Pair) (ks : List Pair) → list_any (derived.eq-value.it k) ks ≡ true → Contains ks k
any_contains k [] test = absurd (true≢false (sym test))
any_contains k (q ∷ ks) test = by (λ e. any_contains k ks e) (derived.eq-value.it k q) refl test
  where
    by : (list_any (derived.eq-value.it k) ks ≡ true → Contains ks k) → (b : Bool) → derived.eq-value.it k q ≡ b → (b || list_any (derived.eq-value.it k) ks) ≡ true → Contains (q ∷ ks) k
    by rest true is e = subst (λ (p : Pair). Contains (q ∷ ks) p) (sym ((Decides-same_pair k q).0 is)) (Contains-first q ks)
    by rest false is e = Contains-rest q ks k (rest e)

-- a pair was put in, if it was not there
pub adds_inserted : (old new : List Pair) (n : ℕ) (s : SortId) → new ≡ insert_key derived.eq-value.it old (made n s) → Adds old new (pair_of n s ∷ []) × HasPair new (n, s)
adds_inserted old new n s is = by (list_any (derived.eq-value.it (made n s)) old) refl is
  where
    own : (i : ℕ) (t : SortId) → Contains (made n s ∷ []) (made i t) → Contains (pair_of n s ∷ []) (pair_of i t)
    own i t inside =
        elim (Contains-cons (made n s) [] (made i t) inside) [
          | inl same ↦
              let pair : pair_of n s ≡ pair_of i t = ap₂ (λ (a b : ℕ). pair_of a (record { 0 = b })) (ap (λ (p : Pair). p.node) same) (ap (λ (p : Pair). p.sort) same) in
              subst (λ (p : ℕ × SortId). Contains (pair_of n s ∷ []) p) pair (Contains-first (pair_of n s) [])
          | inr nothing ↦ absurd (Contains-none (made i t) nothing)
        ]

    by : (b : Bool) → list_any (derived.eq-value.it (made n s)) old ≡ b → new ≡ (if b then old else old ++ made n s ∷ []) → Adds old new (pair_of n s ∷ []) × HasPair new (n, s)
    by true test e = (
      record {
        begins = subst (λ (l : List Pair). Begins old l) (sym e) (Begins-self old);
        only = λ i t inside. inl (subst (λ (l : List Pair). HasPair l (i, t)) e inside);
      },
      subst (λ (l : List Pair). HasPair l (n, s)) (sym e) (any_contains (made n s) old test),
    )
    by false test e = (
      record {
        begins = (made n s ∷ [], e);
        only = λ i t inside. elim (Contains-append_cases old (made n s ∷ []) (made i t) (subst (λ (l : List Pair). HasPair l (i, t)) e inside)) [
          | inl before ↦ inl before
          | inr last ↦ inr (own i t last)
        ];
      },
      subst (λ (l : List Pair). HasPair l (n, s)) (sym e) (Contains-append_right old (made n s ∷ []) (made n s) (Contains-first (made n s) [])),
    )

pub has_later : (old new : List Pair) (pair : ℕ × SortId) → Begins old new → HasPair old pair → HasPair new pair
has_later old new pair begins inside = subst (λ (l : List Pair). HasPair l pair) (sym begins.1) (Contains-append_left old begins.0 (record { node = pair.0; sort = pair.1.0 }) inside)

pub adds_trans : (x y z : List Pair) (first second asked : List (ℕ × SortId)) → ((pair : ℕ × SortId) → Contains first pair → Contains asked pair) → ((pair : ℕ × SortId) → Contains second pair → Contains asked pair)
    → Adds x y first → Adds y z second → Adds x z asked
adds_trans x y z first second asked inside within a b = record {
  begins = Begins-trans x y z a.begins b.begins;
  only = λ i s h. elim (b.only i s h) [
    | inl old ↦ elim (a.only i s old) [ inl older ↦ inl older | inr new ↦ inr (inside (i, s) new) ]
    | inr new ↦ inr (within (i, s) new)
  ];
}

-- one node more is asked for
abbrev pub IsAskedPair : List (Option SortId) → List Pair → NodeId → SortId → Type 0
IsAskedPair known pairs child t = (child.0 < length known) × (HasSort known child.0 t ⊎ HasPair pairs (child.0, t))

pub asked_more : (known : List (Option SortId)) (old new : List Pair) (nodes : List NodeId) (wanted : List SortId) (k : ℕ) (n : NodeId) (s : SortId) → slice_get nodes k ≡ Some n → slice_get wanted k ≡ Some s → Begins old new
    → IsAskedPair known new n s → AreAsked known old (take k nodes) (take k wanted) → AreAsked known new (take (k + 1) nodes) (take (k + 1) wanted)
asked_more known old new nodes wanted k n s at at_s begins is are =
    let later = AllZip-weaker (λ (c : NodeId) (u : SortId). IsAskedPair known old c u) (λ (c : NodeId) (u : SortId). IsAskedPair known new c u)
    (λ c u h. (h.0, elim h.1 [ inl has ↦ inl has | inr inside ↦ inr (has_later old new (c.0, u) begins inside) ])) (take k nodes) (take k wanted) are in
    rw (take_at nodes k n at, take_at wanted k s at_s) (AllZip-push (λ (c : NodeId) (u : SortId). IsAskedPair known new c u) (take k nodes) (take k wanted) n s later is)

-- ---- what is known at first

pub known_reached : (d : Declarations) (s : SortId) (rows : Expressions) (sorts : List (Option SortId)) → AreReached d s rows sorts → AreKnown d rows sorts
known_reached d s rows sorts are = record {
  long = are.long;
  declared = λ i t has. (are.each i t has).declared;
  fits = has_test sorts;
  are_fit = λ i t test.
      let at = are.each i t (tested_has sorts i t test) in
      record {
        node = at.node;
        said = at.said;
        children = AllZip-weaker (λ (c : NodeId) (u : SortId). HasSort sorts c.0 u) (λ (c : NodeId) (u : SortId). has_test sorts c.0 u ≡ true) (λ c u h. has_tested sorts c.0 u h) (node_children at.node) (field_sorts d at.node) at.children;
      };
  each = λ i t has. has_tested sorts i t has;
}

-- ---- pairs that are closed

module _ (d : Declarations) (rows : Expressions) (known : List (Option SortId)) (are : AreKnown d rows known) (pairs : List Pair) (asked : (i : ℕ) (s : SortId) → HasPair pairs (i, s) → IsAsked d rows known pairs i s) where
  abbrev both : ℕ → SortId → Bool
  both i s = are.fits i s || list_any (is_pair i s) pairs

  by_known : (i : ℕ) (s : SortId) → are.fits i s ≡ true → both i s ≡ true
  by_known i s e = ap (λ b. b || list_any (is_pair i s) pairs) e

  by_pair : (i : ℕ) (s : SortId) → HasPair pairs (i, s) → both i s ≡ true
  by_pair i s inside = or_true (are.fits i s) (list_any (is_pair i s) pairs) (pair_tested pairs i s inside)
    where
      or_true : (a b : Bool) → b ≡ true → (a || b) ≡ true
      or_true true b e = refl
      or_true false b e = e

  fit_known : (i : ℕ) (s : SortId) → FitsAt d rows are.fits i s → FitsAt d rows both i s
  fit_known i s f = record {
    node = f.node;
    said = f.said;
    children = AllZip-weaker (λ (c : NodeId) (u : SortId). are.fits c.0 u ≡ true) (λ (c : NodeId) (u : SortId). both c.0 u ≡ true) (λ c u h. by_known c.0 u h) (node_children f.node) (field_sorts d f.node) f.children;
  }

  fit_pair : (i : ℕ) (s : SortId) → IsAsked d rows known pairs i s → FitsAt d rows both i s
  fit_pair i s a = record {
    node = a.node;
    said = a.said;
    children = AllZip-weaker (λ (c : NodeId) (u : SortId). (c.0 < length known) × (HasSort known c.0 u ⊎ HasPair pairs (c.0, u))) (λ (c : NodeId) (u : SortId). both c.0 u ≡ true)
        (λ c u h. elim h.1 [ inl has ↦ by_known c.0 u (are.each c.0 u has) | inr inside ↦ by_pair c.0 u inside ]) (node_children a.node) (field_sorts d a.node) a.children;
  }

  both_fit : AreFit d rows both
  both_fit i s e = by (are.fits i s) refl e
    where
      by : (a : Bool) → are.fits i s ≡ a → (a || list_any (is_pair i s) pairs) ≡ true → FitsAt d rows both i s
      by true is h = fit_known i s (are.are_fit i s is)
      by false is h = fit_pair i s (asked i s (tested_pair pairs i s h))

  -- each of them can be had
  pub pair_can : (i : ℕ) (s : SortId) → HasPair pairs (i, s) → CanHave d rows i s
  pair_can i s inside = (both, both_fit, by_pair i s inside)

  -- and they may become known
  pub known_more : (later : List (Option SortId)) → length later ≡ length known → ((i : ℕ) (s : SortId) → HasPair pairs (i, s) → IsSort d s) → ((i : ℕ) (s : SortId) → HasSort later i s → HasSort known i s ⊎ HasPair pairs (i, s)) → AreKnown d rows later
  known_more later long sorts only = record {
    long = long ∙ are.long;
    declared = λ i s has. elim (only i s has) [ inl old ↦ are.declared i s old | inr new ↦ sorts i s new ];
    fits = both;
    are_fit = both_fit;
    each = λ i s has. elim (only i s has) [ inl old ↦ by_known i s (are.each i s old) | inr new ↦ by_pair i s new ];
  }

-- what is known can be had
pub known_can : (d : Declarations) (rows : Expressions) (known : List (Option SortId)) (i : ℕ) (s : SortId) → AreKnown d rows known → HasSort known i s → CanHave d rows i s
known_can d rows known i s are has = (are.fits, are.are_fit, are.each i s has)

-- ---- where one of them is unfit

-- what has a node is one of the rows
nth_within : (rows : Expressions) (i : ℕ) (e : Expression) → nth rows i ≡ Some e → i < count rows
nth_within none i e at = absurd (none-some e at)
nth_within (more x es) zero e at = omega arith
nth_within (more x es) (suc i) e at = let less = nth_within es i e at in omega (arith, less)

-- the pairs are among those of the set, if the first is
pub asked_in : (d : Declarations) (rows : Expressions) (fits : ℕ → SortId → Bool) → AreFit d rows fits → (i : ℕ) (s : SortId) → fits i s ≡ true → (pair : ℕ × SortId) → Contains (asked_by d (said_at d rows i s)) pair → fits pair.0 pair.1 ≡ true
asked_in d rows fits are i s e pair inside =
    let f = are i s e in
    let pairs = pairs_from (node_children f.node) (field_sorts d f.node) pair (subst (λ (o : Option Node). Contains (asked_by d o) pair) f.said inside) in
    subst (λ n. fits n pair.1 ≡ true) pairs.4 (zip_at (node_children f.node) (field_sorts d f.node) pairs.0 pairs.1 pair.1 f.children pairs.2 pairs.3)
  where
    zip_at : (ns : List NodeId) (ss : List SortId) (k : ℕ) (n : NodeId) (t : SortId) → AllZip (λ (c : NodeId) (u : SortId). fits c.0 u ≡ true) ns ss → slice_get ns k ≡ Some n → slice_get ss k ≡ Some t → fits n.0 t ≡ true
    zip_at [] ss k n t zipped at at_t = absurd (none-some n at)
    zip_at (m ∷ ns) [] k n t zipped at at_t = absurd (none-some t at_t)
    zip_at (m ∷ ns) (u ∷ ss) zero n t zipped at at_t = subst (λ (x : SortId). fits n.0 x ≡ true) (same_Some u t at_t) (subst (λ (c : NodeId). fits c.0 u ≡ true) (same_Some m n at) zipped.0)
    zip_at (m ∷ ns) (u ∷ ss) (suc k) n t zipped at at_t = zip_at ns ss k n t zipped.1 at at_t

zip_long : (fits : ℕ → SortId → Bool) (ns : List NodeId) (ss : List SortId) → AllZip (λ (c : NodeId) (u : SortId). fits c.0 u ≡ true) ns ss → length ns ≡ length ss
zip_long fits [] [] zipped = refl
zip_long fits [] (s ∷ ss) zipped = absurd zipped
zip_long fits (n ∷ ns) [] zipped = absurd zipped
zip_long fits (n ∷ ns) (s ∷ ss) zipped = ap suc (zip_long fits ns ss zipped.1)

zip_some : (fits : ℕ → SortId → Bool) (ns : List NodeId) (ss : List SortId) (k : ℕ) (n : NodeId) → AllZip (λ (c : NodeId) (u : SortId). fits c.0 u ≡ true) ns ss → slice_get ns k ≡ Some n → (t : SortId) × (fits n.0 t ≡ true)
zip_some fits [] ss k n zipped at = absurd (none-some n at)
zip_some fits (m ∷ ns) [] k n zipped at = absurd zipped
zip_some fits (m ∷ ns) (s ∷ ss) zero n zipped at = (s, subst (λ (c : NodeId). fits c.0 s ≡ true) (same_Some m n at) zipped.0)
zip_some fits (m ∷ ns) (s ∷ ss) (suc k) n zipped at = zip_some fits ns ss k n zipped.1 at

said_within : (d : Declarations) (rows : Expressions) (i : ℕ) (s : SortId) (x : Node) → said_at d rows i s ≡ Some x → i < count rows
said_within d rows i s x said = by (nth rows i) refl
  where
    by : (o : Option Expression) → nth rows i ≡ o → i < count rows
    by None is = absurd (none-some x (sym (unsaid is) ∙ said))
      where
        unsaid : nth rows i ≡ None → said_at d rows i s ≡ None
        unsaid none_there = ap (λ (o : Option Expression). option_and_then (node_at d s) (option_and_then (node_text i) o)) none_there
    by (Some e) is = nth_within rows i e is

pub unfit_never : (d : Declarations) (rows : Expressions) (bound : ℕ) (i : ℕ) (s : SortId) → bound ≡ count rows → IsUnfit d rows bound i s → (fits : ℕ → SortId → Bool) → AreFit d rows fits → fits i s ≡ true → ⊥
unfit_never d rows bound i s long (inl unsaid) fits are e = let f = are i s e in none-some f.node (sym unsaid ∙ f.said)
unfit_never d rows bound i s long (inr (node, said, missing)) fits are e =
    let f = are i s e in
    let same : f.node ≡ node = same_Some f.node node (sym f.said ∙ said) in
    let children : AllZip (λ (c : NodeId) (u : SortId). fits c.0 u ≡ true) (node_children node) (field_sorts d node) =
    subst (λ (x : Node). AllZip (λ (c : NodeId) (u : SortId). fits c.0 u ≡ true) (node_children x) (field_sorts d x)) same f.children in
    elim missing [
      | inl uncounted ↦ uncounted (zip_long fits (node_children node) (field_sorts d node) children)
      | inr (k, child, at, past) ↦
          let t = zip_some fits (node_children node) (field_sorts d node) k child children at in
          let g = are child.0 t.0 t.1 in
          let within = said_within d rows child.0 t.0 g.node g.said in
          omega (arith, past, within, long)
    ]

-- ---- the loops

-- the pairs of which the first were gone through
pub record AreAskedSoFar (d : Declarations) (rows : Expressions) (known : List (Option SortId)) (i : ℕ) (s : SortId) (pairs : List Pair) (place : ℕ) : Type 0 where
  pub first : HasPair pairs (i, s)
  pub declared : (j : ℕ) (t : SortId) → HasPair pairs (j, t) → IsSort d t
  pub done : (k : ℕ) (p : Pair) → k < place → slice_get pairs k ≡ Some p → IsAsked d rows known pairs p.node (record { 0 = p.sort })
  pub forced : (fits : ℕ → SortId → Bool) → AreFit d rows fits → fits i s ≡ true → (j : ℕ) (t : SortId) → HasPair pairs (j, t) → fits j t ≡ true

module _ (d : Declarations) (rows : Expressions) (known : List (Option SortId)) (i : ℕ) (s : SortId) where
  -- the pair alone
  pub asked_start : IsSort d s → (pairs : List Pair) → pairs ≡ (record { node = i; sort = s.0 }) ∷ [] → AreAskedSoFar d rows known i s pairs 0
  asked_start declared pairs is =
      let own : (j : ℕ) (t : SortId) → HasPair pairs (j, t) → pair_of i s ≡ pair_of j t =
      λ j t inside. elim (Contains-cons (record { node = i; sort = s.0 }) [] (record { node = j; sort = t.0 }) (subst (λ (l : List Pair). Contains l (record { node = j; sort = t.0 })) is inside)) [
        | inl same ↦ ap₂ (λ (a b : ℕ). pair_of a (record { 0 = b })) (ap (λ (p : Pair). p.node) same) (ap (λ (p : Pair). p.sort) same)
        | inr nothing ↦ absurd (Contains-none (record { node = j; sort = t.0 }) nothing)
      ] in
      record {
        first = subst (λ (l : List Pair). HasPair l (i, s)) (sym is) (Contains-first (record { node = i; sort = s.0 }) []);
        declared = λ j t inside. subst (λ (p : ℕ × SortId). IsSort d p.1) (own j t inside) declared;
        done = λ k p less at. absurd (omega (arith, less));
        forced = λ fits are has j t inside. subst (λ (p : ℕ × SortId). fits p.0 p.1 ≡ true) (own j t inside) has;
      }

  module _ (pairs new : List Pair) (place : ℕ) (p : Pair) (so_far : AreAskedSoFar d rows known i s pairs place) (at : slice_get pairs place ≡ Some p) where
    own_pair : HasPair pairs (p.node, record { 0 = p.sort })
    own_pair = Contains-from_slice_get pairs place p at

    -- one more of the pairs was gone through
    pub asked_next : FieldsOver d → HaveSaidHeads d → Adds pairs new (asked_by d (said_at d rows p.node (record { 0 = p.sort }))) → IsAsked d rows known new p.node (record { 0 = p.sort }) → AreAskedSoFar d rows known i s new (place + 1)
    asked_next over heads adds asked = record {
      first = later (i, s) so_far.first;
      declared = λ j t inside. elim (adds.only j t inside) [
        | inl old ↦ so_far.declared j t old
        | inr fresh ↦ asked_sorts d over heads rows p.node (record { 0 = p.sort }) (pair_of j t) fresh
      ];
      done = λ k q less at_q. by_place k q less at_q;
      forced = λ fits are has j t inside. elim (adds.only j t inside) [
        | inl old ↦ so_far.forced fits are has j t old
        | inr fresh ↦ asked_in d rows fits are p.node (record { 0 = p.sort }) (so_far.forced fits are has p.node (record { 0 = p.sort }) own_pair) (pair_of j t) fresh
      ];
    }
      where
        later : (pair : ℕ × SortId) → HasPair pairs pair → HasPair new pair
        later pair inside = subst (λ (l : List Pair). HasPair l pair) (sym adds.begins.1) (Contains-append_left pairs adds.begins.0 (record { node = pair.0; sort = pair.1.0 }) inside)

        kept_asked : (j : ℕ) (t : SortId) → IsAsked d rows known pairs j t → IsAsked d rows known new j t
        kept_asked j t a = record {
          node = a.node;
          said = a.said;
          children = AllZip-weaker (λ (c : NodeId) (u : SortId). (c.0 < length known) × (HasSort known c.0 u ⊎ HasPair pairs (c.0, u))) (λ (c : NodeId) (u : SortId). (c.0 < length known) × (HasSort known c.0 u ⊎ HasPair new (c.0, u)))
              (λ c u h. (h.0, elim h.1 [ inl has ↦ inl has | inr inside ↦ inr (later (c.0, u) inside) ])) (node_children a.node) (field_sorts d a.node) a.children;
        }

        by_place : (k : ℕ) (q : Pair) → k < place + 1 → slice_get new k ≡ Some q → IsAsked d rows known new q.node (record { 0 = q.sort })
        by_place k q less at_q = by (old_or_last k place less)
          where
            old_or_last : (k place : ℕ) → k < place + 1 → (k < place) ⊎ (k ≡ place)
            old_or_last zero zero less = inr refl
            old_or_last zero (suc n) less = inl (omega arith)
            old_or_last (suc k) zero less = absurd (omega (arith, less))
            old_or_last (suc k) (suc n) less = elim (old_or_last k n (omega (arith, less))) [ inl before ↦ inl (omega (arith, before)) | inr same ↦ inr (ap suc same) ]

            stayed : (r : Pair) → slice_get pairs k ≡ Some r → r ≡ q
            stayed r old = same_Some r q (sym (ap (λ (l : List Pair). slice_get l k) adds.begins.1 ∙ slice_get-append_left pairs adds.begins.0 k r old) ∙ at_q)

            by : (k < place) ⊎ (k ≡ place) → IsAsked d rows known new q.node (record { 0 = q.sort })
            by (inl before) =
                let old = slice_get-there pairs k (let within = slice_get_within pairs place p at in omega (arith, before, within)) in
                subst (λ (r : Pair). IsAsked d rows known new r.node (record { 0 = r.sort })) (stayed old.0 old.1) (kept_asked old.0.node (record { 0 = old.0.sort }) (so_far.done k old.0 before old.1))
            by (inr same) = subst (λ (r : Pair). IsAsked d rows known new r.node (record { 0 = r.sort })) (stayed p (ap (slice_get pairs) same ∙ at)) asked

    -- one that is unfit shows that the first cannot be had
    pub asked_stopped : length known ≡ count rows → IsUnfit d rows (length known) p.node (record { 0 = p.sort }) → CanHave d rows i s → ⊥
    asked_stopped long unfit (fits, are, has) = unfit_never d rows (length known) p.node (record { 0 = p.sort }) long unfit fits are (so_far.forced fits are has p.node (record { 0 = p.sort }) own_pair)

-- where all were, each asks for nothing new
pub asked_all : (d : Declarations) (rows : Expressions) (known : List (Option SortId)) (i : ℕ) (s : SortId) (pairs : List Pair) (place : ℕ) → AreAskedSoFar d rows known i s pairs place → length pairs ≤ place
    → (j : ℕ) (t : SortId) → HasPair pairs (j, t) → IsAsked d rows known pairs j t
asked_all d rows known i s pairs place so_far past j t inside =
    let found = slice_get-from_Contains pairs (record { node = j; sort = t.0 }) inside in
    let within = slice_get_within pairs found.0 (record { node = j; sort = t.0 }) found.1 in
    so_far.done found.0 (record { node = j; sort = t.0 }) (omega (arith, within, past)) found.1

-- the first nodes have sorts that they can have
pub record AreSortsSoFar (d : Declarations) (rows : Expressions) (reached : List (Option SortId)) (sorts : List SortId) (count : ℕ) : Type 0 where
  pub long : length sorts ≡ count
  pub kept : (j : ℕ) (t : SortId) → j < count → HasSort reached j t → slice_get sorts j ≡ Some t
  pub each : (j : ℕ) (t : SortId) → slice_get sorts j ≡ Some t → IsSort d t × CanHave d rows j t

-- what can be had is said, by a node over rows
pub can_said : (d : Declarations) (rows : Expressions) (i : ℕ) (s : SortId) → IsSort d s → CanHave d rows i s → IsSaidNode d rows i s
can_said d rows i s declared (fits, are, has) =
    let f = are i s has in
    record {
      declared = declared;
      can_have = (fits, are, has);
      node = f.node;
      said = f.said;
      within = λ k other inside.
          let child = get_or (node_children f.node) k other in
          let t = zip_some fits (node_children f.node) (field_sorts d f.node) k child f.children (slice_get-get_or (node_children f.node) k other inside) in
          let g = are child.0 t.0 t.1 in
          said_within d rows child.0 t.0 g.node g.said;
    }

pub sorts_all : (d : Declarations) (rows : Expressions) (reached : List (Option SortId)) (sorts : List SortId) (n : ℕ) → AreSortsSoFar d rows reached sorts n → n ≡ count rows → length reached ≤ n → AreSorts d rows reached sorts
sorts_all d rows reached sorts n so_far is past = record {
  long = so_far.long ∙ is;
  kept = λ i s has. let within = slice_get_within reached i (Some s) has in so_far.kept i s (omega (arith, within, past)) has;
  each = λ i s at. let both = so_far.each i s at in can_said d rows i s both.0 both.1;
}

-- closed pairs can be had, and may become known
pub closed_can : (d : Declarations) (rows : Expressions) (known : List (Option SortId)) (i : ℕ) (s : SortId) (pairs : List Pair) → AreKnown d rows known → AreClosed d rows known i s pairs → CanHave d rows i s
closed_can d rows known i s pairs are closed = pair_can d rows known are pairs closed.asked i s closed.first

pub closed_known : (d : Declarations) (rows : Expressions) (known later : List (Option SortId)) (i : ℕ) (s : SortId) (pairs : List Pair) → AreKnown d rows known → AreClosed d rows known i s pairs → length later ≡ length known
    → ((j : ℕ) (t : SortId) → HasSort later j t → HasSort known j t ⊎ HasPair pairs (j, t)) → AreKnown d rows later
closed_known d rows known later i s pairs are closed long only = known_more d rows known are pairs closed.asked later long closed.declared only
