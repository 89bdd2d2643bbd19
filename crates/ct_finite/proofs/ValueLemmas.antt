-- The list of a sort as trees.
use Rattle.std.proofs.Common.{◌≡◌, ℕ, ◌+◌, ◌<◌, List, [], ◌∷◌, ◌++◌, length, map, take, get_or, Some, option_map, slice_get, sym, ◌∙◌, ap, ap₂, subst}
use Rattle.std.proofs.lemmas.Grind.{get_or_default_zero}
use Rattle.std.proofs.lemmas.List.{map-append}
use Rattle.ct_lemmas.proofs.Options.{option_map-source}
use Rattle.ct_lemmas.proofs.Prefixes.{take-slice_get_next}
use Rattle.ct_sorts.specs.declared.ids.SortId.{SortId}
use Rattle.ct_formulas.specs.declared.tree.Tree.{Tree}
use Rattle.ct_formulas.specs.Formula.{Formula}
use Rattle.ct_formulas.specs.TreeFormula.{formula_of}
use Rattle.ct_listing.specs.Closed.{ClosedValue}
use Rattle.ct_finite.specs.ClosedFormula.{formula_of_value}
use Rattle.ct_finite.specs.Counts.{count_at}

-- one more tree
pub value_step : (vs : List ClosedValue) (trees : List Tree) (tree : Tree) (k : ℕ) → map formula_of trees ≡ map formula_of_value (take k vs) → option_map formula_of_value (slice_get vs k) ≡ Some (formula_of tree) → map formula_of (trees ++ tree ∷ []) ≡ map formula_of_value (take (k + 1) vs)
value_step vs trees tree k before e =
    let found = option_map-source formula_of_value (slice_get vs k) (formula_of tree) e in
    map-append formula_of trees (tree ∷ [])
    ∙ ap₂ (λ (l : List Formula) (t : Formula). l ++ t ∷ []) before (sym found.2)
    ∙ sym (map-append formula_of_value (take k vs) (found.0 ∷ []))
    ∙ sym (ap (map formula_of_value) (take-slice_get_next vs k found.0 found.1))

-- the count that is read
pub count_read : (xs ys : List ℕ) (s : SortId) (n : ℕ) → xs ≡ ys → s.0 < length ys → n ≡ get_or xs s.0 n → n ≡ count_at ys s
count_read xs ys s n view within e =
    let inside : s.0 < length xs = subst (λ (l : List ℕ). s.0 < length l) (sym view) within in
    e ∙ get_or_default_zero xs s.0 n inside ∙ ap (λ (l : List ℕ). get_or l s.0 0) view
