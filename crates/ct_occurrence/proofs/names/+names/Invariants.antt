use Rattle.std.proofs.Common.{◌+◌, length}
use Rattle.ct_formulas.specs.TreeFormula.{formula_of, formulas_of_trees}
use Rattle.ct_occurrence.specs.CaseFormula.{cases_of_trees}
use Rattle.ct_occurrence.proofs.Size.{size, sizes, case_sizes}
use Rattle.ct_occurrence.proofs.NameLemmas.{NamesRest, CaseNamesRest}
use Rattle.ct_occurrence.proofs.names.+names.Given as goal

abbrev pub decreases-add_names : goal.decreases-add_names
decreases-add_names l = size (formula_of l.tree.now)

abbrev pub decreases-add_names_of_all : goal.decreases-add_names_of_all
decreases-add_names_of_all l = sizes (formulas_of_trees l.trees.now)

abbrev pub decreases-add_names_of_choice : goal.decreases-add_names_of_choice
decreases-add_names_of_choice l = size (formula_of l.condition.now) + size (formula_of l.first.now) + size (formula_of l.second.now) + 1

abbrev pub decreases-add_names_of_call : goal.decreases-add_names_of_call
decreases-add_names_of_call l = sizes (formulas_of_trees l.trees.now) + 1

abbrev pub decreases-add_names_of_let : goal.decreases-add_names_of_let
decreases-add_names_of_let l = sizes (formulas_of_trees l.trees.now) + size (formula_of l.body.now) + 1

abbrev pub decreases-add_names_of_match : goal.decreases-add_names_of_match
decreases-add_names_of_match l = size (formula_of l.matched.now) + case_sizes (cases_of_trees l.cases.now) + 1

abbrev pub decreases-add_names_of_cases : goal.decreases-add_names_of_cases
decreases-add_names_of_cases l = case_sizes (cases_of_trees l.cases.now)

abbrev pub invariant-add_names_of_all-loop-rest : goal.invariant-add_names_of_all-loop-rest
invariant-add_names_of_all-loop-rest l = NamesRest (formulas_of_trees l.trees) (formulas_of_trees l.rest) l.initial.names.items l.names.items

abbrev pub decreases-add_names_of_all-loop-rest : goal.decreases-add_names_of_all-loop-rest
decreases-add_names_of_all-loop-rest l = length l.rest

abbrev pub invariant-add_names_of_cases-loop-rest : goal.invariant-add_names_of_cases-loop-rest
invariant-add_names_of_cases-loop-rest l = CaseNamesRest (cases_of_trees l.cases) (cases_of_trees l.rest) l.initial.names.items l.names.items

abbrev pub decreases-add_names_of_cases-loop-rest : goal.decreases-add_names_of_cases-loop-rest
decreases-add_names_of_cases-loop-rest l = length l.rest
