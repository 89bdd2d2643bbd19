use Rattle.std.proofs.Common.{◌+◌, ◌*◌, length, reverse}
use Rattle.ct_formulas.specs.TreeFormula.{formula_of, formulas_of_trees}
use Rattle.ct_occurrence.proofs.Size.{size, sizes, case_sizes}
use Rattle.ct_occurrence.specs.Marks.{worked_in}
use Rattle.ct_occurrence.specs.CaseFormula.{cases_of_trees}
use Rattle.ct_occurrence.proofs.MayLemmas.{MarksRest, MarksBound}
use Rattle.ct_occurrence.proofs.NoteLemmas.{NotesRest, NotesBound}
use Rattle.ct_occurrence.proofs.MarkedCases.{MarksCases}
use Rattle.ct_occurrence.proofs.occurrence.+mark.Given as goal

abbrev pub decreases-mark : goal.decreases-mark
decreases-mark l = 2 * size (formula_of l.tree.now)

abbrev pub decreases-mark_all : goal.decreases-mark_all
decreases-mark_all l = 2 * sizes (formulas_of_trees l.trees.now)

abbrev pub decreases-mark_bound : goal.decreases-mark_bound
decreases-mark_bound l = 2 * sizes (formulas_of_trees l.trees.now)

abbrev pub decreases-mark_where : goal.decreases-mark_where
decreases-mark_where l = 2 * size (formula_of l.tree.now) + 1

abbrev pub decreases-mark_under : goal.decreases-mark_under
decreases-mark_under l = 2 * size (formula_of l.tree.now) + 1

abbrev pub decreases-mark_match : goal.decreases-mark_match
decreases-mark_match l = 2 * size (formula_of l.matched.now) + 2 * case_sizes (cases_of_trees l.cases.now) + 2

abbrev pub decreases-mark_cases : goal.decreases-mark_cases
decreases-mark_cases l = 2 * case_sizes (cases_of_trees l.cases.now)

abbrev pub invariant-mark_cases-loop-rest : goal.invariant-mark_cases-loop-rest
invariant-mark_cases-loop-rest l = MarksCases l.sig (worked_in l.definitions) (cases_of_trees l.cases) l.initial.flags.items l.initial.inner.items (reverse l.earlier) l.tests (cases_of_trees l.rest) l.flags.items l.inner.items

abbrev pub decreases-mark_cases-loop-rest : goal.decreases-mark_cases-loop-rest
decreases-mark_cases-loop-rest l = length l.rest

abbrev pub invariant-mark_all-loop-rest : goal.invariant-mark_all-loop-rest
invariant-mark_all-loop-rest l = record {
  marks : MarksRest l.sig (worked_in l.definitions) (formulas_of_trees l.trees) l.initial.flags.items (formulas_of_trees l.rest) l.flags.items;
  notes : NotesRest l.sig (worked_in l.definitions) (formulas_of_trees l.trees) (formulas_of_trees l.rest) l.all.items;
}

abbrev pub decreases-mark_all-loop-rest : goal.decreases-mark_all-loop-rest
decreases-mark_all-loop-rest l = length l.rest

abbrev pub invariant-mark_bound-loop-rest : goal.invariant-mark_bound-loop-rest
invariant-mark_bound-loop-rest l = record {
  marks : MarksBound l.sig (worked_in l.definitions) l.bound (formulas_of_trees l.trees) l.initial.flags.items l.left (formulas_of_trees l.rest) l.flags.items;
  notes : NotesBound l.sig (worked_in l.definitions) l.bound (formulas_of_trees l.trees) l.left (formulas_of_trees l.rest) l.all.items;
}

abbrev pub decreases-mark_bound-loop-rest : goal.decreases-mark_bound-loop-rest
decreases-mark_bound-loop-rest l = length l.rest

abbrev pub decreases-mark_choice : goal.decreases-mark_choice
decreases-mark_choice l = 2 * size (formula_of l.condition.now) + 2 * size (formula_of l.first.now) + 2 * size (formula_of l.second.now) + 1

abbrev pub decreases-mark_quantified : goal.decreases-mark_quantified
decreases-mark_quantified l = 2 * size (formula_of l.body.now) + 2

abbrev pub decreases-mark_let : goal.decreases-mark_let
decreases-mark_let l = 2 * sizes (formulas_of_trees l.trees.now) + 2 * size (formula_of l.body.now) + 2
