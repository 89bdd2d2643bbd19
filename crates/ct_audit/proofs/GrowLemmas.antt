-- A table that grows by the core terms of assertions, one after the other.
use Rattle.std.proofs.Common.{◌≡◌, ◌∙◌, ℕ, zero, suc, ◌+◌, ◌<◌, ◌≤◌, ◌⊎◌, List, [], ◌∷◌, ◌++◌, length, All, Contains, slice_get, Some, Err, refl, sym, ap, subst, inl, inr, arith, append_assoc}
use Rattle.std.specs.Prelude.{IsErrOf}
use Rattle.std.specs.List.{flat_map}
use Rattle.std.proofs.lemmas.Bool.{cases_lt}
use Rattle.std.proofs.lemmas.Grind.{flat_map-append}
use Rattle.std.proofs.lemmas.List.{map-append, append-nil, length-append}
use Rattle.std.proofs.lemmas.List.Elements.{All-nil, All-append, All-head, All-tail, All-weaker, All-cons, Contains-append_left, Contains-append_right}
use Rattle.std.proofs.lemmas.Option.{slice_get_within, none-some, same_Some}
use Rattle.ct_lemmas.proofs.Lists.{slice_get-append_cases, slice_get-append_left, slice_get-there}
use Rattle.ct_sorts.specs.declared.ids.SortId.{SortId}
use Rattle.ct_sorts.specs.Declarations.{bool_sort}
use Rattle.ct_sorts.specs.Consistent.{IsConsistent}
use Rattle.ct_terms.specs.declared.ids.TermId.{TermId}
use Rattle.ct_terms.specs.Terms.{Terms, IsBoolean, AreSorted, AreOrdered, AreSingle, most_terms}
use Rattle.ct_terms.specs.CoreTree.{CoreTree, subtrees, term_at}
use Rattle.ct_terms.specs.CoreSorts.{HasTreeSort}
use Rattle.ct_formulas.specs.Formula.{Formula}
use Rattle.ct_formulas.specs.FormulaSorts.{IsSorted, AreSound}
use Rattle.ct_closure.specs.ClosedTable.{terms_at}
use Rattle.ct_compile.specs.Effect.{IsPrefix, IsMissing, AreDifferent, DoNotFit, AddsTrees}
use Rattle.ct_stack.specs.Stack.{Context, core, cores}
use Rattle.ct_audit.specs.Grown.{terms_of, IsGrownBy, AreTooMany}
use Rattle.ct_audit.specs.Growing.{Theorems, IsGrowing}

prefix_length : (old new : Terms) → IsPrefix old new → length old ≤ length new
prefix_length old new h = omega (arith, ap (λ (ts : Terms). length ts) h.1, length-append old h.0)

prefix_trans : (a b c : Terms) → IsPrefix a b → IsPrefix b c → IsPrefix a c
prefix_trans a b c h k = (h.0 ++ k.0, k.1 ∙ ap (λ (ts : Terms). ts ++ k.0) h.1 ∙ append_assoc a h.0 k.0)

-- nothing was added yet
pub starts : (c : Context) (all : List Formula) (table : Terms) → AreSorted c.declarations table → IsGrowing c all all table table []
starts c all table sorted =
    record {
      prefix = ([], sym (append-nil table));
      sorted = sorted;
      booleans = All-nil (IsBoolean table);
      asserted = refl;
      adds = λ t from below. absurd (omega (arith, from, below));
    }

-- nothing is left
pub ends : (c : Context) (all left : List Formula) (old now : Terms) (numbers : List TermId) → left ≡ [] → length now ≤ most_terms → AreOrdered now → AreSingle now → IsGrowing c all left old now numbers → IsGrownBy c all old now numbers
ends c all left old now numbers none few ordered single growing =
    record {
      prefix = growing.prefix;
      few = few;
      sorted = growing.sorted;
      ordered = ordered;
      single = single;
      asserted = sym (append-nil (terms_at now numbers)) ∙ ap (λ (fs : List Formula). terms_at now numbers ++ cores c fs) (sym none) ∙ growing.asserted;
      nothing_else = growing.adds;
    }

-- the terms under the next core term are among all
module _ (c : Context) (all rest : List Formula) (f : Formula) (old now : Terms) (numbers : List TermId) (growing : IsGrowing c all (f ∷ rest) old now numbers) where
  among : (t : CoreTree) → Contains (subtrees (core c f)) t → Contains (terms_of c all) t
  among t h =
      subst (λ (trees : List CoreTree). Contains (flat_map subtrees trees) t) growing.asserted
      (subst (λ (trees : List CoreTree). Contains trees t) (sym (flat_map-append subtrees (terms_at now numbers) (core c f ∷ cores c rest)))
      (Contains-append_right (flat_map subtrees (terms_at now numbers)) (flat_map subtrees (core c f ∷ cores c rest)) t
      (Contains-append_left (subtrees (core c f)) (flat_map subtrees (cores c rest)) t h)))

  module _ (theorems : Theorems) (new : Terms) (t : TermId) (ordered : AreOrdered new) (grown : IsPrefix now new) where
    stays : (u : TermId) → u.0 < length now → term_at new u ≡ term_at now u
    stays u within = ap (λ (ts : Terms). term_at ts u) grown.1 ∙ theorems.longer now grown.0 u (subst AreOrdered grown.1 ordered) within

    boolean_stays : (u : TermId) → IsBoolean now u → IsBoolean new u
    boolean_stays u h =
        (h.0, subst (λ (table : Terms). slice_get table u.0 ≡ Some (h.0, bool_sort)) (sym grown.1) (slice_get-append_left now grown.0 u.0 (h.0, bool_sort) h.1))

    all_stay : (ns : List TermId) → All (IsBoolean now) ns → terms_at new ns ≡ terms_at now ns
    all_stay [] all = refl
    all_stay (n ∷ ns) all =
        let first = All-head (IsBoolean now) n ns all in
        let here : term_at new n ≡ term_at now n = stays n (slice_get_within now n.0 (first.0, bool_sort) first.1) in
        ap (λ (tree : CoreTree). tree ∷ terms_at new ns) here ∙ ap (λ (trees : List CoreTree). term_at now n ∷ trees) (all_stay ns (All-tail (IsBoolean now) n ns all))

    module _ (sorted : AreSorted c.declarations new) (consistent : IsConsistent c.declarations) (sound : AreSound c.declarations c.bodies) (boolean : IsSorted c.declarations [] f bool_sort) (stands : (t.0 < length new) × (term_at new t ≡ core c f)) (adds : AddsTrees (subtrees (core c f)) now new) where
      -- the core term is Boolean
      is_boolean : IsBoolean new t
      is_boolean =
          let found = slice_get-there new t.0 stands.0 in
          let tree : HasTreeSort c.declarations (term_at new t) bool_sort =
          subst (λ (tree : CoreTree). HasTreeSort c.declarations tree bool_sort) (sym stands.1) (theorems.core_sorted c.declarations c.bodies [] [] f bool_sort consistent sound tt boolean)
          in
          let same : found.0.1 ≡ bool_sort = theorems.one_sort c.declarations (term_at new t) found.0.1 bool_sort (theorems.tree_sorted c.declarations new t found.0.1 ordered sorted (found.0.0, found.1)) tree in
          (found.0.0, subst (λ (s : SortId). slice_get new t.0 ≡ Some (found.0.0, s)) same found.1)

      added : AddsTrees (terms_of c all) old new
      added u from below =
          elim (cases_lt u.0 (length now)) [
            | inl before ↦ subst (Contains (terms_of c all)) (sym (stays u before)) (growing.adds u from before)
            | inr after ↦ among (term_at new u) (adds u after below)
          ]

      -- with the next one
      pub goes_on : IsGrowing c all rest old new (numbers ++ t ∷ [])
      goes_on =
          record {
            prefix = prefix_trans old now new growing.prefix grown;
            sorted = sorted;
            booleans = All-append (IsBoolean new) numbers (t ∷ []) (All-weaker (IsBoolean now) (IsBoolean new) boolean_stays numbers growing.booleans) (All-cons (IsBoolean new) t [] is_boolean (All-nil (IsBoolean new)));
            asserted =
                ap (λ (trees : List CoreTree). trees ++ cores c rest) (map-append (term_at new) numbers (t ∷ []))
                ∙ append_assoc (terms_at new numbers) (term_at new t ∷ []) (cores c rest)
                ∙ ap (λ (trees : List CoreTree). trees ++ term_at new t ∷ cores c rest) (all_stay numbers growing.booleans)
                ∙ ap (λ (tree : CoreTree). terms_at now numbers ++ tree ∷ cores c rest) stands.1
                ∙ growing.asserted;
            adds = added;
          }

abbrev id : ℕ → TermId
id k = record { 0 = k }

-- so many trees of the table, from a number on
abbrev trees_from : Terms → ℕ → ℕ → List CoreTree
trees_from table k zero = []
trees_from table k (suc m) = term_at table (id k) ∷ trees_from table (suc k) m

count_from : (table : Terms) (k m : ℕ) → length (trees_from table k m) ≡ m
count_from table k zero = refl
count_from table k (suc m) = ap suc (count_from table (suc k) m)

at_index : (table : Terms) (k m i : ℕ) (t : CoreTree) → slice_get (trees_from table k m) i ≡ Some t → (i < m) × (term_at table (id (k + i)) ≡ t)
at_index table k zero i t e = absurd (none-some t e)
at_index table k (suc m) zero t e =
    let n : k + 0 ≡ k = omega arith in
    (omega arith, ap (λ (x : ℕ). term_at table (id x)) n ∙ same_Some (term_at table (id k)) t e)
at_index table k (suc m) (suc i) t e =
    let h = at_index table (suc k) m i t e in
    let n : k + suc i ≡ suc k + i = omega arith in
    (omega (arith, h.0), ap (λ (x : ℕ). term_at table (id x)) n ∙ h.1)

-- where terms do not fit into a table that has grown, they did not fit with those that it has grown by
module _ (theorems : Theorems) (allowed next : List CoreTree) (old now : Terms) (ordered : AreOrdered now) (single : AreSingle now) (grown : IsPrefix old now) (adds : AddsTrees allowed old now) (among : (t : CoreTree) → Contains next t → Contains allowed t) (trees : List CoreTree) (unfit : DoNotFit next now trees) where
  abbrev more : ℕ
  more = length grown.0

  long : length now ≡ length old + more
  long = ap (λ (ts : Terms). length ts) grown.1 ∙ length-append old grown.0

  first : List CoreTree
  first = trees_from now (length old) more

  count : length first ≡ more
  unfolding first
  count = count_from now (length old) more

  -- a tree of the list is one that the table has grown by, or is missing
  abbrev IsNew : ℕ → CoreTree → Type 0
  IsNew i t = (i < more) × (length old + i < length now) × (term_at now (id (length old + i)) ≡ t)

  abbrev IsUnfit : ℕ → CoreTree → Type 0
  IsUnfit i t = (j : ℕ) × (i ≡ more + j) × (slice_get trees j ≡ Some t)

  split : (i : ℕ) (t : CoreTree) → slice_get (first ++ trees) i ≡ Some t → IsNew i t ⊎ IsUnfit i t
  unfolding first
  split i t e =
      elim (slice_get-append_cases (trees_from now (length old) more) trees i t e) [
        | inl here ↦ let h = at_index now (length old) more i t here in inl (h.0, omega (arith, h.0, long), h.1)
        | inr there ↦ inr (there.0, omega (arith, there.1, count), there.2)
      ]

  stayed : (u : TermId) → u.0 < length old → term_at now u ≡ term_at old u
  stayed u within = ap (λ (ts : Terms). term_at ts u) grown.1 ∙ theorems.longer old grown.0 u (subst AreOrdered grown.1 ordered) within

  same_number : (u v : TermId) → u.0 < length now → v.0 < length now → term_at now u ≡ term_at now v → u.0 ≡ v.0
  same_number u v a b e = ap (λ (w : TermId). w.0) (theorems.one now u v ordered single a b e)

  different : AreDifferent (first ++ trees)
  different i j t at_i at_j = by (split i t at_i) (split j t at_j)
    where
      by : IsNew i t ⊎ IsUnfit i t → IsNew j t ⊎ IsUnfit j t → i ≡ j
      by (inl a) (inl b) = let n = same_number (id (length old + i)) (id (length old + j)) a.1 b.1 (a.2 ∙ sym b.2) in omega (arith, n)
      by (inl a) (inr b) = absurd (unfit.missing b.0 t b.2 (id (length old + i)) a.1 a.2)
      by (inr a) (inl b) = absurd (unfit.missing a.0 t a.2 (id (length old + j)) b.1 b.2)
      by (inr a) (inr b) = let n = unfit.different a.0 b.0 t a.2 b.2 in omega (arith, n, a.1, b.1)

  inside : (i : ℕ) (t : CoreTree) → slice_get (first ++ trees) i ≡ Some t → Contains allowed t
  inside i t at =
      elim (split i t at) [
        | inl a ↦ subst (Contains allowed) a.2 (adds (id (length old + i)) (omega arith) a.1)
        | inr b ↦ among t (unfit.inside b.0 t b.2)
      ]

  missing : (i : ℕ) (t : CoreTree) → slice_get (first ++ trees) i ≡ Some t → IsMissing old t
  missing i t at u within is = by (split i t at)
    where
      by : IsNew i t ⊎ IsUnfit i t → ⊥
      by (inl a) = let n = same_number u (id (length old + i)) (omega (arith, within, long)) a.1 (stayed u within ∙ is ∙ sym a.2) in absurd (omega (arith, n, within))
      by (inr b) = unfit.missing b.0 t b.2 u (omega (arith, within, long)) (stayed u within ∙ is)

  pub do_not_fit : (all : List CoreTree) × DoNotFit allowed old all
  do_not_fit = (
    first ++ trees,
    record {
      different = different;
      inside = inside;
      missing = missing;
      many = let n = length-append first trees in let full = unfit.many in omega (arith, n, count, long, full);
    },
  )

pub too_many : (theorems : Theorems) (c : Context) (all rest : List Formula) (f : Formula) (old now : Terms) (numbers : List TermId) → IsGrowing c all (f ∷ rest) old now numbers → AreOrdered now → AreSingle now → (trees : List CoreTree) → DoNotFit (subtrees (core c f)) now trees → AreTooMany c all old
too_many theorems c all rest f old now numbers growing ordered single trees unfit =
    do_not_fit theorems (terms_of c all) (subtrees (core c f)) old now ordered single growing.prefix growing.adds (among c all rest f old now numbers growing) trees unfit

-- an error is the same, whatever is made where there is none
pub other_err : {T U E : Type 0} (a b : E) → IsErrOf {T = T} {E = E} (Err a) b → IsErrOf {T = U} {E = E} (Err a) b
other_err {T} {U} {E} a b h = let same : a ≡ b = cc in ap (λ (e : E). Err e) same
