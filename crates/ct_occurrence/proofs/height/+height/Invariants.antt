use Rattle.std.proofs.Common.{◌+◌, ◌≤◌, length}
use Rattle.ct_formulas.specs.TreeFormula.{formula_of, formulas_of_trees}
use Rattle.ct_occurrence.specs.CaseFormula.{cases_of_trees}
use Rattle.ct_occurrence.proofs.Size.{size, sizes, case_sizes}
use Rattle.ct_occurrence.proofs.height.+height.Given as goal

abbrev pub decreases-height_of : goal.decreases-height_of
decreases-height_of l = size (formula_of l.tree.now)

abbrev pub decreases-highest : goal.decreases-highest
decreases-highest l = sizes (formulas_of_trees l.trees.now)

abbrev pub decreases-height_of_choice : goal.decreases-height_of_choice
decreases-height_of_choice l = size (formula_of l.condition.now) + size (formula_of l.first.now) + size (formula_of l.second.now) + 1

abbrev pub decreases-height_of_let : goal.decreases-height_of_let
decreases-height_of_let l = sizes (formulas_of_trees l.trees.now) + size (formula_of l.body.now) + 1

abbrev pub decreases-height_of_match : goal.decreases-height_of_match
decreases-height_of_match l = size (formula_of l.matched.now) + case_sizes (cases_of_trees l.cases.now) + 1

abbrev pub decreases-highest_body : goal.decreases-highest_body
decreases-highest_body l = case_sizes (cases_of_trees l.cases.now)

abbrev pub invariant-highest-loop-rest : goal.invariant-highest-loop-rest
invariant-highest-loop-rest l = sizes (formulas_of_trees l.rest) ≤ sizes (formulas_of_trees l.trees)

abbrev pub decreases-highest-loop-rest : goal.decreases-highest-loop-rest
decreases-highest-loop-rest l = length l.rest

abbrev pub invariant-highest_body-loop-rest : goal.invariant-highest_body-loop-rest
invariant-highest_body-loop-rest l = case_sizes (cases_of_trees l.rest) ≤ case_sizes (cases_of_trees l.cases)

abbrev pub decreases-highest_body-loop-rest : goal.decreases-highest_body-loop-rest
decreases-highest_body-loop-rest l = length l.rest
