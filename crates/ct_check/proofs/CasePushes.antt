-- One more case at the end.
use Rattle.std.proofs.Common.{◌≡◌, List, [], ◌∷◌, ◌++◌, map, ◌∙◌, ap}
use Rattle.std.proofs.lemmas.List.{map-append}
use Rattle.ct_formulas.specs.declared.tree.Case.{Case}
use Rattle.ct_formulas.specs.declared.tree.Pattern.{Pattern}
use Rattle.ct_formulas.specs.Formula.{Formula}
use Rattle.ct_occurrence.specs.CaseFormula.{case_of}

pub pushed_case : (all cs : List Case) (c : Case) (x : Pattern × Formula) → all ≡ cs ++ c ∷ [] → case_of c ≡ x → map case_of all ≡ map case_of cs ++ x ∷ []
pushed_case all cs c x is means = ap (λ xs. map case_of xs) is ∙ map-append case_of cs (c ∷ []) ∙ ap (λ y. map case_of cs ++ y ∷ []) means
