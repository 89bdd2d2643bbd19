use Rattle.std.proofs.Common.{◌≡◌, ◌+◌, map, length, reverse}
use Rattle.ct_formulas.specs.TreeFormula.{formula_of, formulas_of_trees}
use Rattle.ct_formulas.specs.Occurrence.{uses_below}
use Rattle.ct_occurrence.specs.Noted.{AreNoted, AreNotedWhere, CasesNoted}
use Rattle.ct_scope.specs.Calling.{IsState}
use Rattle.ct_occurrence.specs.Marks.{worked_in}
use Rattle.ct_occurrence.specs.CaseFormula.{cases_of_trees}
use Rattle.ct_scope.proofs.Weight.{weight, weights, case_weights, weights_below}
use Rattle.ct_scope.proofs.BindingLemmas.{Completes}
use Rattle.ct_compile.proofs.CycleLemmas.{Collects}
use Rattle.ct_compile.proofs.ChoosesLemmas.{Chooses}
use Rattle.ct_formulas.specs.Choices.{choices_of}
use Rattle.ct_scope.specs.Choosing.{all_chosen, AreChosen}
use Rattle.ct_scope.specs.Values.{AreValueTerms}
use Rattle.ct_compile.proofs.OverLemmas.{left_from}
use Rattle.ct_compile.proofs.LoopLemmas.{Keeps}
use Rattle.ct_compile.proofs.terms.+compile.Given as goal

abbrev pub decreases-compile_tree : goal.decreases-compile_tree
decreases-compile_tree l = weight (weights_below (map formula_of l.level.now.scope.now.bodies) l.level.now.below) (formula_of l.tree.now)

abbrev pub decreases-compile_plain : goal.decreases-compile_plain
decreases-compile_plain l = weights (weights_below (map formula_of l.level.now.scope.now.bodies) l.level.now.below) (formulas_of_trees l.trees.now) + 1

abbrev pub decreases-compile_all : goal.decreases-compile_all
decreases-compile_all l = weights (weights_below (map formula_of l.level.now.scope.now.bodies) l.level.now.below) (formulas_of_trees l.trees.now)

abbrev pub decreases-compile_choice : goal.decreases-compile_choice
decreases-compile_choice l = weight (weights_below (map formula_of l.level.now.scope.now.bodies) l.level.now.below) (formula_of l.condition.now) + weight (weights_below (map formula_of l.level.now.scope.now.bodies) l.level.now.below) (formula_of l.first.now) + weight (weights_below (map formula_of l.level.now.scope.now.bodies) l.level.now.below) (formula_of l.second.now) + 1

abbrev pub decreases-compile_let : goal.decreases-compile_let
decreases-compile_let l = weights (weights_below (map formula_of l.level.now.scope.now.bodies) l.level.now.below) (formulas_of_trees l.trees.now) + weight (weights_below (map formula_of l.level.now.scope.now.bodies) l.level.now.below) (formula_of l.body.now) + 1

abbrev pub decreases-compile_call : goal.decreases-compile_call
decreases-compile_call l = weights_below (map formula_of l.level.now.scope.now.bodies) l.level.now.below l.k + weights (weights_below (map formula_of l.level.now.scope.now.bodies) l.level.now.below) (formulas_of_trees l.trees.now) + 1

abbrev pub decreases-compile_bound : goal.decreases-compile_bound
decreases-compile_bound l = weights (weights_below (map formula_of l.level.now.scope.now.bodies) l.level.now.below) (formulas_of_trees l.trees.now)

abbrev pub decreases-compile_match : goal.decreases-compile_match
decreases-compile_match l = weight (weights_below (map formula_of l.level.now.scope.now.bodies) l.level.now.below) (formula_of l.tree.now) + case_weights (weights_below (map formula_of l.level.now.scope.now.bodies) l.level.now.below) (cases_of_trees l.cases.now) + 2

abbrev pub decreases-compile_cases : goal.decreases-compile_cases
decreases-compile_cases l = case_weights (weights_below (map formula_of l.level.now.scope.now.bodies) l.level.now.below) (cases_of_trees l.cases.now)

abbrev pub invariant-compile_all-loop-rest : goal.invariant-compile_all-loop-rest
invariant-compile_all-loop-rest l = Keeps (Collects l.level.scope.now.sig (map formula_of l.level.scope.now.bodies) l.level.below l.initial.table l.table l.initial.env l.operator (formulas_of_trees l.trees) l.args l.lead (formulas_of_trees l.rest)) (IsState l.level.scope.now.sig (map formula_of l.level.scope.now.bodies) l.level.below (worked_in l.level.definitions.now) l.table l.known) (AreNoted l.level.scope.now.sig (worked_in l.level.definitions.now) (uses_below l.level.scope.now.sig (map formula_of l.level.scope.now.bodies) l.level.below) (formulas_of_trees l.rest) l.left) l.env l.initial.env

abbrev pub decreases-compile_all-loop-rest : goal.decreases-compile_all-loop-rest
decreases-compile_all-loop-rest l = length l.rest

abbrev pub invariant-compile_bound-loop-rest : goal.invariant-compile_bound-loop-rest
invariant-compile_bound-loop-rest l = Keeps (Completes l.level.scope.now.sig (map formula_of l.level.scope.now.bodies) l.level.below l.initial.table l.table l.initial.env l.flags (formulas_of_trees l.trees) l.bounds.items l.left (formulas_of_trees l.rest)) (IsState l.level.scope.now.sig (map formula_of l.level.scope.now.bodies) l.level.below (worked_in l.level.definitions.now) l.table l.known) (AreNotedWhere l.level.scope.now.sig (worked_in l.level.definitions.now) (uses_below l.level.scope.now.sig (map formula_of l.level.scope.now.bodies) l.level.below) l.left (formulas_of_trees l.rest) l.noted) l.env l.initial.env

abbrev pub decreases-compile_bound-loop-rest : goal.decreases-compile_bound-loop-rest
decreases-compile_bound-loop-rest l = length l.rest

abbrev pub decreases-compile_case : goal.decreases-compile_case
decreases-compile_case l = weight (weights_below (map formula_of l.level.now.scope.now.bodies) l.level.now.below) (formula_of l.body.now) + 1

abbrev pub invariant-compile_cases-loop-rest : goal.invariant-compile_cases-loop-rest
invariant-compile_cases-loop-rest l = Keeps (Chooses l.level.scope.now.sig (map formula_of l.level.scope.now.bodies) l.level.below l.initial.table l.table l.initial.env l.matched (cases_of_trees l.cases) l.made.items (reverse l.earlier) (cases_of_trees l.rest)) (IsState l.level.scope.now.sig (map formula_of l.level.scope.now.bodies) l.level.below (worked_in l.level.definitions.now) l.table l.known) (CasesNoted l.level.scope.now.sig (worked_in l.level.definitions.now) (uses_below l.level.scope.now.sig (map formula_of l.level.scope.now.bodies) l.level.below) (reverse l.earlier) (cases_of_trees l.rest) l.left) l.env l.initial.env

abbrev pub decreases-compile_cases-loop-rest : goal.decreases-compile_cases-loop-rest
decreases-compile_cases-loop-rest l = length l.rest

abbrev pub decreases-compile_quantified : goal.decreases-compile_quantified
decreases-compile_quantified l = weight (weights_below (map formula_of l.level.now.scope.now.bodies) l.level.now.below) (formula_of l.body.now) + 5

abbrev pub decreases-compile_over : goal.decreases-compile_over
decreases-compile_over l = weight (weights_below (map formula_of l.level.now.scope.now.bodies) l.level.now.below) (formula_of l.body.now) + 4

abbrev pub decreases-compile_choices : goal.decreases-compile_choices
decreases-compile_choices l = weight (weights_below (map formula_of l.level.now.scope.now.bodies) l.level.now.below) (formula_of l.over.now.body.now) + 3

abbrev pub decreases-compile_choice_of : goal.decreases-compile_choice_of
decreases-compile_choice_of l = weight (weights_below (map formula_of l.level.now.scope.now.bodies) l.level.now.below) (formula_of l.over.now.body.now) + 2

abbrev pub decreases-compile_choice_anew : goal.decreases-compile_choice_anew
decreases-compile_choice_anew l = weight (weights_below (map formula_of l.level.now.scope.now.bodies) l.level.now.below) (formula_of l.over.now.body.now) + 1

abbrev pub invariant-compile_choices-loop-k : goal.invariant-compile_choices-loop-k
invariant-compile_choices-loop-k l = record {
  done : Collects l.level.scope.now.sig (map formula_of l.level.scope.now.bodies) l.level.below l.initial.table l.table l.initial.env l.operator (all_chosen l.level.scope.now.sig l.over.sorts.now (formula_of l.over.body.now)) l.args l.lead (left_from (formula_of l.over.body.now) (choices_of l.level.scope.now.sig l.over.sorts.now) l.k);
  chosen : AreChosen l.level.scope.now.sig (map formula_of l.level.scope.now.bodies) l.table l.level.below l.initial.env l.over.quantifier l.over.sorts.now (formula_of l.over.body.now) l.k l.args;
  values : AreValueTerms l.level.scope.now.sig l.table l.values;
  state : IsState l.level.scope.now.sig (map formula_of l.level.scope.now.bodies) l.level.below (worked_in l.level.definitions.now) l.table l.known;
  same : l.env ≡ l.initial.env;
}
