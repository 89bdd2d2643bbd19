-- Assertions that are brought into a closed table.
use Rattle.std.proofs.Common.{◌≡◌, ℕ, ◌<◌, ◌≤◌, List, [], ◌∷◌, length, map, All, Contains, Some, refl, sym, ap, subst, ◌∙◌, inl, inr}
use Rattle.std.proofs.lemmas.List.Elements.{All-head, All-tail, All-map, Contains-append_left, Contains-append_right}
use Rattle.ct_lemmas.proofs.Lists.{slice_get-there}
use Rattle.ct_lemmas.proofs.Numbers.{below_or_not}
use Rattle.ct_sorts.specs.declared.ids.SortId.{SortId}
use Rattle.ct_sorts.specs.Declarations.{Declarations, bool_sort}
use Rattle.ct_terms.specs.declared.ids.TermId.{TermId}
use Rattle.ct_terms.specs.Terms.{Terms, IsOfSort, IsBoolean}
use Rattle.ct_terms.specs.CoreTree.{CoreTree, term_at}
use Rattle.ct_terms.specs.CoreSorts.{HasTreeSort}
use Rattle.ct_terms.proofs.SubtreeLemmas.{subtrees-itself}
use Rattle.ct_closure.specs.Closed.{truth_trees}
use Rattle.ct_closure.specs.ClosedTable.{terms_at}
use Rattle.ct_closure.specs.Further.{AreFurtherSubtermsOf}
use Rattle.ct_restriction.specs.Renamed.{number_in}
use Rattle.ct_restriction.specs.Restricted.{IsSubtermOfOne}
use Rattle.ct_restriction.specs.Renumbered.{IsEqualTerm}

-- ---- equal terms

module _ (d : Declarations) (from to : Terms) where
  -- the trees of terms with equal ones are those of these
  pub equal_trees : (numbers : List TermId) (ts : List TermId) → All (λ t. IsEqualTerm from to t (number_in numbers t)) ts → terms_at to (map (number_in numbers) ts) ≡ terms_at from ts
  equal_trees numbers [] all = refl
  equal_trees numbers (t ∷ ts) all =
      let first = All-head (λ (t : TermId). IsEqualTerm from to t (number_in numbers t)) t ts all in
      let rest = equal_trees numbers ts (All-tail (λ (t : TermId). IsEqualTerm from to t (number_in numbers t)) t ts all) in
      ap (λ (tree : CoreTree). tree ∷ terms_at to (map (number_in numbers) ts)) first.tree ∙ ap (λ (trees : List CoreTree). term_at from t ∷ trees) rest

  module _ (sorted_from : (t : TermId) (s : SortId) → IsOfSort from t s → HasTreeSort d (term_at from t) s) (sorted_to : (t : TermId) (s : SortId) → IsOfSort to t s → HasTreeSort d (term_at to t) s)
      (one : (t : CoreTree) (r s : SortId) → HasTreeSort d t r → HasTreeSort d t s → r ≡ s) where
    equal_boolean : (t u : TermId) → IsEqualTerm from to t u → IsBoolean from t → IsBoolean to u
    equal_boolean t u equal boolean =
        let there = slice_get-there to u.0 equal.within in
        let core = there.0.0 in
        let sort = there.0.1 in
        let own : HasTreeSort d (term_at to u) sort = sorted_to u sort (core, there.1) in
        let given : HasTreeSort d (term_at to u) bool_sort = subst (λ (x : CoreTree). HasTreeSort d x bool_sort) (sym equal.tree) (sorted_from t bool_sort boolean) in
        (core, there.1 ∙ ap (λ (s : SortId). Some (core, s)) (one (term_at to u) sort bool_sort own given))

    pub equal_booleans : (numbers : List TermId) (ts : List TermId) → All (λ t. IsEqualTerm from to t (number_in numbers t)) ts → All (IsBoolean from) ts → All (IsBoolean to) (map (number_in numbers) ts)
    equal_booleans numbers ts all booleans = All-map (IsBoolean to) (number_in numbers) ts (λ k e low. equal_boolean _ _ (all k e low) (booleans k e low))

-- ---- further terms

-- what stands behind the closed terms is `true`, `false` or a subterm of what was brought in
pub further : (old new from : Terms) (closed : ℕ) (roots asserts : List TermId)
    → ((t : TermId) → t.0 < length old → term_at new t ≡ term_at old t)
    → ((u : TermId) → closed ≤ u.0 → u.0 < length old → Contains truth_trees (term_at old u))
    → ((u : TermId) → length old ≤ u.0 → u.0 < length new → IsSubtermOfOne (terms_at from asserts) (term_at new u))
    → terms_at new roots ≡ terms_at from asserts
    → AreFurtherSubtermsOf new closed roots
further old new from closed roots asserts stays rest only trees = λ u past within. elim (below_or_not u.0 (length old)) [
  | inl before ↦
      let tree = term_at new u in
      let truth : Contains truth_trees tree = subst (Contains truth_trees) (sym (stays u before)) (rest u past before) in
      (tree, Contains-append_left truth_trees (terms_at new roots) tree truth, subtrees-itself tree)
  | inr after ↦
      let one = only u after within in
      (one.0, Contains-append_right truth_trees (terms_at new roots) one.0 (subst (λ (ts : List CoreTree). Contains ts one.0) (sym trees) one.1), one.2)
]
