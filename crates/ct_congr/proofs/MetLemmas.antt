-- Terms that were met stay met where more are met and more merges wait.
use Rattle.std.proofs.Common.{◌≡◌, ℕ, suc, ◌<◌, length, List, [], ◌∷◌, ◌++◌, slice_get, Some, refl, sym, ap, ap₂, subst, ◌∙◌, inl, inr, append_assoc}
use Rattle.std.specs.List.{AllZip, AllByRecursion, Contains}
use Rattle.std.specs.Int.Bits.{bit_xor}
use Rattle.std.proofs.lemmas.List.Elements.{Contains-append_left, Contains-push, Contains-push_cases}
use Rattle.std.proofs.lemmas.Option.{slice_get_within, get_or_from_slice_get}
use Rattle.ct_terms.specs.declared.ids.TermId.{TermId}
use Rattle.ct_terms.specs.declared.term.Core.{Core}
use Rattle.ct_terms.specs.Children.{CoreHead, core_head, core_children}
use Rattle.ct_terms.specs.Terms.{Terms, Has}
use Rattle.ct_equivalence.specs.Digests.{share, rep_of, shares, head_number, digest}
use Rattle.ct_rules.specs.Rules.{Equations, IsCongruence}
use Rattle.ct_congr.specs.Partition.{InOneClass}
use Rattle.ct_congr.specs.Covered.{Keys, IsKeyed, AreKeys, IsAlike, IsRowOf, IsMatched, IsMet}
use Rattle.ct_lemmas.proofs.Pairs.{AllZip-weaker}
use Rattle.ct_congr.proofs.ClassLemmas.{InOneClass-sym, InOneClass-trans}
use Rattle.ct_congr.proofs.TermLemmas.{Has-same}

-- more entries at the end
pub IsKeyed-more : (keys more : Keys) → (added : Keys) × (more ≡ keys ++ added) → (key : ℕ) (t : TermId) → IsKeyed keys key t → IsKeyed more key t
IsKeyed-more keys more added key t h = subst (λ (list : Keys). Contains list (key, t)) (sym added.1) (Contains-append_left keys added.0 (key, t) h)

pub more_trans : (first second third : Keys) → (added : Keys) × (second ≡ first ++ added) → (added : Keys) × (third ≡ second ++ added) → (added : Keys) × (third ≡ first ++ added)
more_trans first second third p q = (p.0 ++ q.0, q.1 ∙ subst (λ (list : Keys). list ++ q.0 ≡ first ++ (p.0 ++ q.0)) (sym p.1) (append_assoc first p.0 q.0))

-- terms that are alike
module _ (reps : List TermId) where
  pairs_sym : (xs ys : List TermId) → AllZip (InOneClass reps) xs ys → AllZip (InOneClass reps) ys xs
  pairs_sym [] [] p = tt
  pairs_sym [] (y ∷ ys) p = absurd p
  pairs_sym (x ∷ xs) [] p = absurd p
  pairs_sym (x ∷ xs) (y ∷ ys) p = (InOneClass-sym reps x y p.0, pairs_sym xs ys p.1)

  pairs_trans : (xs ys zs : List TermId) → AllZip (InOneClass reps) xs ys → AllZip (InOneClass reps) ys zs → AllZip (InOneClass reps) xs zs
  pairs_trans [] [] [] p q = tt
  pairs_trans [] [] (z ∷ zs) p q = absurd q
  pairs_trans [] (y ∷ ys) zs p q = absurd p
  pairs_trans (x ∷ xs) [] zs p q = absurd p
  pairs_trans (x ∷ xs) (y ∷ ys) [] p q = absurd q
  pairs_trans (x ∷ xs) (y ∷ ys) (z ∷ zs) p q = (InOneClass-trans reps x y z p.0 q.0, pairs_trans xs ys zs p.1 q.1)

  pub within_left : (xs ys : List TermId) → AllZip (InOneClass reps) xs ys → AllByRecursion (λ x. x.0 < length reps) xs
  within_left [] [] p = tt
  within_left [] (y ∷ ys) p = absurd p
  within_left (x ∷ xs) [] p = absurd p
  within_left (x ∷ xs) (y ∷ ys) p = (slice_get_within reps x.0 p.0.0 p.0.1, within_left xs ys p.1)

  pub within_right : (xs ys : List TermId) → AllZip (InOneClass reps) xs ys → AllByRecursion (λ x. x.0 < length reps) ys
  within_right xs ys p = within_left ys xs (pairs_sym xs ys p)

  pub IsAlike-sym : (a b : Core) → IsAlike reps a b → IsAlike reps b a
  IsAlike-sym a b p = record { head = sym p.head; arguments = pairs_sym (core_children a) (core_children b) p.arguments }

  pub IsAlike-trans : (a b c : Core) → IsAlike reps a b → IsAlike reps b c → IsAlike reps a c
  IsAlike-trans a b c p q = record { head = p.head ∙ q.head; arguments = pairs_trans (core_children a) (core_children b) (core_children c) p.arguments q.arguments }

  same_rep : (x y : TermId) → InOneClass reps x y → rep_of reps x ≡ rep_of reps y
  same_rep x y p = get_or_from_slice_get reps x.0 p.0 x p.1 ∙ sym (get_or_from_slice_get reps y.0 p.0 y p.2)

  same_shares : (place : ℕ) (xs ys : List TermId) → AllZip (InOneClass reps) xs ys → shares reps place xs ≡ shares reps place ys
  same_shares place [] [] p = refl
  same_shares place [] (y ∷ ys) p = absurd p
  same_shares place (x ∷ xs) [] p = absurd p
  same_shares place (x ∷ xs) (y ∷ ys) p = ap₂ (λ (r : TermId) (s : ℕ). bit_xor (share place r) s) (same_rep x y p.0) (same_shares (suc place) xs ys p.1)

  -- they have one digest
  pub digest-alike : (a b : Core) → IsAlike reps a b → digest reps a ≡ digest reps b
  digest-alike a b p = ap₂ (λ (h : CoreHead) (s : ℕ). bit_xor (head_number h) s) p.head (same_shares 0 (core_children a) (core_children b) p.arguments)

  -- what is met for one is met for the other
  pub IsRowOf-alike : (terms : Terms) (keys : Keys) (a b : Core) (u : TermId) → IsAlike reps b a → IsRowOf terms reps keys a u → IsRowOf terms reps keys b u
  IsRowOf-alike terms keys a b u p row = record {
    other = row.other;
    has = row.has;
    keyed = subst (λ n. IsKeyed keys n u) (sym (digest-alike b a p)) row.keyed;
    alike = IsAlike-trans b a row.other p row.alike;
  }

pub IsRowOf-more : (terms : Terms) (reps : List TermId) (keys more : Keys) → ((key : ℕ) (t : TermId) → IsKeyed keys key t → IsKeyed more key t) → (core : Core) (u : TermId) → IsRowOf terms reps keys core u → IsRowOf terms reps more core u
IsRowOf-more terms reps keys more grows core u row = record { other = row.other; has = row.has; keyed = grows (digest reps core) u row.keyed; alike = row.alike }

pub IsMet-wider : (terms : Terms) (reps : List TermId) (keys : Keys) (joined wider : Equations) → ((x y : TermId) → joined x y → wider x y) → (t : TermId) (core : Core) → IsMet terms reps keys joined t core → IsMet terms reps keys wider t core
IsMet-wider terms reps keys joined wider each t core (inl lone) = inl lone
IsMet-wider terms reps keys joined wider each t core (inr met) = inr (record { first = met.first; row = met.row; each = λ u row. each t u (met.each u row) })

-- one more term, which is like none that was met at its digest
module _ (terms : Terms) (reps : List TermId) (keys : Keys) (joined : Equations) (t : TermId) (core : Core) (has : Has terms core t.0) (none : (u : TermId) → IsRowOf terms reps keys core u → ⊥) where
  more : Keys
  more = keys ++ (digest reps core, t) ∷ []

  grows : (key : ℕ) (u : TermId) → IsKeyed keys key u → IsKeyed more key u
  unfolding more
  grows key u h = Contains-append_left keys ((digest reps core, t) ∷ []) (key, u) h

  matched : (u : TermId) (its : Core) → IsMatched terms reps keys joined u its → IsMatched terms reps more joined u its
  unfolding more
  matched u its met = record {
    first = met.first;
    row = IsRowOf-more terms reps keys more grows its met.first met.row;
    each = λ v row. elim (Contains-push_cases keys (digest reps core, t) (digest reps its, v) row.keyed) [
      | inl before ↦ met.each v (record { other = row.other; has = row.has; keyed = before; alike = row.alike })
      | inr last ↦
          let is : v ≡ t = sym (ap (λ (e : ℕ × TermId). e.1) last) in
          let one : row.other ≡ core = Has-same terms row.other core t.0 (subst (λ (x : TermId). Has terms row.other x.0) is row.has) has in
          let alike : IsAlike reps core its = IsAlike-sym reps its core (subst (IsAlike reps its) one row.alike) in
          absurd (none met.first (IsRowOf-alike reps terms keys its core met.first alike met.row))
    ];
  }

  pub IsMet-push : (u : TermId) (its : Core) → IsMet terms reps keys joined u its → IsMet terms reps (keys ++ (digest reps core, t) ∷ []) joined u its
  unfolding more
  IsMet-push u its (inl lone) = inl lone
  IsMet-push u its (inr met) = inr (matched u its met)

  -- the term itself
  pub IsMatched-first : IsAlike reps core core → joined t t → IsMatched terms reps (keys ++ (digest reps core, t) ∷ []) joined t core
  IsMatched-first alike own = record {
    first = t;
    row = record { other = core; has = has; keyed = Contains-push keys (digest reps core, t); alike = alike };
    each = λ v row. elim (Contains-push_cases keys (digest reps core, t) (digest reps core, v) row.keyed) [
      | inl before ↦ absurd (none v (record { other = row.other; has = row.has; keyed = before; alike = row.alike }))
      | inr last ↦ subst (joined t) (ap (λ (e : ℕ × TermId). e.1) last) own
    ];
  }

-- two terms that are alike and met are joined
pub joined_alike : (terms : Terms) (reps : List TermId) (keys : Keys) (joined : Equations) → ((x y : TermId) → joined x y → joined y x) → ((x y z : TermId) → joined x y → joined y z → joined x z) → (t u : TermId) (a b : Core) → IsAlike reps a b → IsMatched terms reps keys joined t a → IsMatched terms reps keys joined u b → joined t u
joined_alike terms reps keys joined symmetric transitive t u a b alike p q =
    let theirs = q.each p.first (IsRowOf-alike reps terms keys a b p.first (IsAlike-sym reps a b alike) p.row) in
    transitive t p.first u (p.each p.first p.row) (symmetric u p.first theirs)

-- two terms with one head and arguments of the same classes are congruent
pub IsCongruence-alike : (terms : Terms) (reps : List TermId) (t u : TermId) (a b : Core) → Has terms a t.0 → Has terms b u.0 → IsAlike reps a b → IsCongruence terms (InOneClass reps) t u
IsCongruence-alike terms reps t u a b left right alike = record {
  left = a;
  right = b;
  left_stands = left;
  right_stands = right;
  head = alike.head;
  arguments = alike.arguments;
}

-- terms that were met stay terms of larger classes
pub AreKeys-larger : (old new : List TermId) (keys : Keys) → ((x y : TermId) → InOneClass old x y → InOneClass new x y) → AreKeys old keys → AreKeys new keys
AreKeys-larger old new keys keeps are key t h = keeps t t (are key t h)

-- and with one more
pub AreKeys-push : (reps : List TermId) (keys : Keys) (key : ℕ) (t : TermId) → InOneClass reps t t → AreKeys reps keys → AreKeys reps (keys ++ (key, t) ∷ [])
AreKeys-push reps keys key t is are k u h = elim (Contains-push_cases keys (key, t) (k, u) h) [
  | inl before ↦ are k u before
  | inr last ↦ subst (λ (v : TermId). InOneClass reps v v) (ap (λ (e : ℕ × TermId). e.1) last) is
]
