-- Tables of asserted formulas: the first one, and one with one more formula.
use Rattle.std.proofs.Common.{◌≡◌, Bool, true, false, not, nat_eq, true≢false, ℕ, zero, suc, ◌<◌, ◌≤◌, List, [], ◌∷◌, ◌++◌, length, Contains, slice_get, Some, refl, sym, ap, subst, ◌∙◌, inl, inr, arith}
use Rattle.std.specs.List.{flat_map}
use Rattle.std.proofs.lemmas.List.Elements.{All-nil, All-append, All-contains, All-weaker, All-cons, Contains-append_cases, Contains-append_left, Contains-append_right}
use Rattle.std.proofs.lemmas.Bool.Decides.{Decides-eqb}
use Rattle.std.proofs.lemmas.Option.{slice_get_within}
use Rattle.ct_lemmas.proofs.Contained.{Contains-first, Contains-map, Contains-map_cases}
use Rattle.ct_lemmas.proofs.Lists.{slice_get-append_left, slice_get-there}
use Rattle.ct_lemmas.proofs.Numbers.{below_or_not}
use Rattle.ct_sorts.specs.declared.ids.SortId.{SortId}
use Rattle.ct_sorts.specs.Declarations.{Declarations, bool_sort}
use Rattle.ct_terms.specs.declared.ids.TermId.{TermId}
use Rattle.ct_terms.specs.declared.term.Core.{Core}
use Rattle.ct_terms.specs.declared.term.Core.TheVariants.{Con}
use Rattle.ct_terms.specs.Terms.{Terms, IsOfSort, IsBoolean, AreSorted, AreOrdered, truth_terms}
use Rattle.ct_terms.specs.CoreTree.{CoreTree, tree_children, subtrees, tree_layer, term_at}
use Rattle.ct_terms.specs.CoreSorts.{HasTreeSort}
use Rattle.ct_closure.specs.Closed.{truth_trees}
use Rattle.ct_closure.specs.ClosedTable.{AreSubtermsOf, terms_at}
use Rattle.ct_compile.specs.Effect.{IsPrefix}
use Rattle.test_engine.specs.Asserted.{IsAsserted}

-- a tree is a subterm of itself
subtree_itself : ((t : CoreTree) → subtrees t ≡ t ∷ flat_map subtrees (tree_children t)) → (t : CoreTree) → Contains (subtrees t) t
subtree_itself subterms t = subst (λ (ts : List CoreTree). Contains ts t) (sym (subterms t)) (Contains-first t (flat_map subtrees (tree_children t)))

module _ (unfolds : (table : Terms) (t : TermId) (core : Core) (sort : SortId) → AreOrdered table → slice_get table t.0 ≡ Some (core, sort) → term_at table t ≡ tree_layer (term_at table) core) (subterms : (t : CoreTree) → subtrees t ≡ t ∷ flat_map subtrees (tree_children t)) where
  -- the terms of the first table are `true` and `false`
  truth_tree : AreOrdered truth_terms → (k : ℕ) → k < 2 → Contains truth_trees (term_at truth_terms (record { 0 = k }))
  truth_tree ordered zero h =
      subst (Contains truth_trees) (sym (unfolds truth_terms (record { 0 = 0 }) (Con (record { 0 = 0 }) []) bool_sort ordered refl)) (0, omega arith, refl)
  truth_tree ordered (suc zero) h =
      subst (Contains truth_trees) (sym (unfolds truth_terms (record { 0 = 1 }) (Con (record { 0 = 1 }) []) bool_sort ordered refl)) (1, omega arith, refl)
  truth_tree ordered (suc (suc k)) h = absurd (omega (arith, h))

  -- the first table is that of no assertion
  pub truths_asserted : (d : Declarations) (table : Terms) → table ≡ truth_terms → AreOrdered table → AreSorted d table → IsAsserted d table []
  truths_asserted d table e ordered sorted =
      record {
        sorted = sorted;
        boolean = All-nil (IsBoolean table);
        exact =
            subst (λ (ts : Terms). AreSubtermsOf ts []) (sym e)
            (λ t within. (term_at truth_terms t, truth_tree (subst AreOrdered e ordered) t.0 (omega (arith, within)), subtree_itself subterms (term_at truth_terms t)));
      }

-- two sorts that the test does not tell apart are one
pub same_sort : (r s : SortId) → not (nat_eq r.0 s.0) ≡ false → r ≡ s
same_sort r s told = by (nat_eq r.0 s.0) refl told
  where
    of : ℕ → SortId
    of n = record { 0 = n }

    by : (b : Bool) → nat_eq r.0 s.0 ≡ b → not b ≡ false → r ≡ s
    by true e h = ap of ((Decides-eqb r.0 s.0).0 e)
    by false e h = absurd (true≢false h)

-- a term is Boolean where its tree is
pub boolean_term : ((d : Declarations) (t : CoreTree) (r s : SortId) → HasTreeSort d t r → HasTreeSort d t s → r ≡ s) → ((d : Declarations) (table : Terms) (t : TermId) (sort : SortId) → AreOrdered table → AreSorted d table → IsOfSort table t sort → HasTreeSort d (term_at table t) sort) → (d : Declarations) (table : Terms) (t : TermId) → AreOrdered table → AreSorted d table → t.0 < length table → HasTreeSort d (term_at table t) bool_sort → IsBoolean table t
boolean_term one_sort tree_sorted d table t ordered sorted within boolean =
    let found = slice_get-there table t.0 within in
    let same : found.0.1 ≡ bool_sort = one_sort d (term_at table t) found.0.1 bool_sort (tree_sorted d table t found.0.1 ordered sorted (found.0.0, found.1)) boolean in
    (found.0.0, subst (λ (s : SortId). slice_get table t.0 ≡ Some (found.0.0, s)) same found.1)

module _ (longer : (table more : Terms) (t : TermId) → AreOrdered (table ++ more) → t.0 < length table → term_at (table ++ more) t ≡ term_at table t) (subterms : (t : CoreTree) → subtrees t ≡ t ∷ flat_map subtrees (tree_children t)) (d : Declarations) (old new : Terms) (asserts : List TermId) (t : TermId) (before : IsAsserted d old asserts) (grown : IsPrefix old new) (sorted : AreSorted d new) (ordered : AreOrdered new) (boolean : IsBoolean new t) (added : (u : TermId) → length old ≤ u.0 → u.0 < length new → Contains (subtrees (term_at new t)) (term_at new u)) where
  tree_stays : (u : TermId) → u.0 < length old → term_at new u ≡ term_at old u
  tree_stays u within =
      ap (λ (table : Terms). term_at table u) grown.1 ∙ longer old grown.0 u (subst AreOrdered grown.1 ordered) within

  boolean_stays : (u : TermId) → IsBoolean old u → IsBoolean new u
  boolean_stays u h =
      (h.0, subst (λ (table : Terms). slice_get table u.0 ≡ Some (h.0, bool_sort)) (sym grown.1) (slice_get-append_left old grown.0 u.0 (h.0, bool_sort) h.1))

  -- the roots are roots still
  formula_stays : (root : CoreTree) → Contains (terms_at old asserts) root → Contains (terms_at new (asserts ++ t ∷ [])) root
  formula_stays root h =
      let found = Contains-map_cases (term_at old) asserts root h in
      let of_sort = All-contains (IsBoolean old) asserts found.0 before.boolean found.1 in
      let within : found.0.0 < length old = slice_get_within old found.0.0 (of_sort.0, bool_sort) of_sort.1 in
      subst (Contains (terms_at new (asserts ++ t ∷ []))) (tree_stays found.0 within ∙ found.2)
      (Contains-map (term_at new) (asserts ++ t ∷ []) found.0 (Contains-append_left asserts (t ∷ []) found.0 found.1))

  root_stays : (root : CoreTree) → Contains (truth_trees ++ terms_at old asserts) root → Contains (truth_trees ++ terms_at new (asserts ++ t ∷ [])) root
  root_stays root h =
      elim (Contains-append_cases truth_trees (terms_at old asserts) root h) [
        | inl truth ↦ Contains-append_left truth_trees (terms_at new (asserts ++ t ∷ [])) root truth
        | inr formula ↦ Contains-append_right truth_trees (terms_at new (asserts ++ t ∷ [])) root (formula_stays root formula)
      ]

  new_root : Contains (truth_trees ++ terms_at new (asserts ++ t ∷ [])) (term_at new t)
  new_root =
      Contains-append_right truth_trees (terms_at new (asserts ++ t ∷ [])) (term_at new t)
      (Contains-map (term_at new) (asserts ++ t ∷ []) t (Contains-append_right asserts (t ∷ []) t (Contains-first t [])))

  -- each term is a subterm of one of them
  exact_still : AreSubtermsOf new (asserts ++ t ∷ [])
  exact_still u within =
      elim (below_or_not u.0 (length old)) [
        | inl below ↦ let root = before.exact u below in (root.0, root_stays root.0 root.1, subst (Contains (subtrees root.0)) (sym (tree_stays u below)) root.2)
        | inr from ↦ (term_at new t, new_root, added u from within)
      ]

  -- with one more formula the table is that of the formulas
  pub one_more_asserted : IsAsserted d new (asserts ++ t ∷ [])
  one_more_asserted =
      record {
        sorted = sorted;
        boolean =
            All-append (IsBoolean new) asserts (t ∷ []) (All-weaker (IsBoolean old) (IsBoolean new) boolean_stays asserts before.boolean)
            (All-cons (IsBoolean new) t [] boolean (All-nil (IsBoolean new)));
        exact = exact_still;
      }
