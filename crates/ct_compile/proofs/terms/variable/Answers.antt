use Rattle.std.proofs.Common.{map}
use Rattle.ct_formulas.specs.Formula.{Var}
use Rattle.ct_formulas.specs.TreeFormula.{formula_of}
use Rattle.ct_scope.proofs.ChoiceLemmas.{variable_inside, variable_there, variable_bound, variable_made}
use Rattle.ct_compile.proofs.CycleLemmas.{compiles_grown}
use Rattle.ct_compile.proofs.terms.variable.Goals as goal

pub at-bound-requires : goal.at-bound-requires
at-bound-requires c = record { inside = variable_inside c.args.level.now.scope.now.sig (map formula_of c.args.level.now.scope.now.bodies) c.args.level.now.below c.args.table.now c.args.env.now c.args.i c.requires.ready }

pub of_bound-requires-clause-there : goal.of_bound-requires-clause-there
of_bound-requires-clause-there c = variable_there c.args.level.now.scope.now.sig (map formula_of c.args.level.now.scope.now.bodies) c.args.level.now.below c.args.table.now c.args.env.now c.args.i c.at-bound.result c.at-bound.ensures.value c.requires.ready

pub of_bound-requires-clause-bound : goal.of_bound-requires-clause-bound
of_bound-requires-clause-bound c = variable_bound c.args.level.now.scope.now.sig (map formula_of c.args.level.now.scope.now.bodies) c.args.level.now.below c.args.table.now c.args.env.now c.args.i c.at-bound.result c.at-bound.ensures.value c.requires.ready

pub returns-clause-outcome : goal.returns-clause-outcome
returns-clause-outcome c = variable_made c.args.level.now.scope.now.sig (map formula_of c.args.level.now.scope.now.bodies) c.args.level.now.below c.args.table.now c.args.env.now c.args.i c.at-bound.result c.at-bound.ensures.value c.of_bound.new.table c.of_bound.result c.of_bound.ensures.core c.of_bound.ensures.effect

pub returns-clause-grown : goal.returns-clause-grown
returns-clause-grown c = compiles_grown c.args.level.now.scope.now.sig (map formula_of c.args.level.now.scope.now.bodies) c.args.level.now.below c.args.table.now c.of_bound.new.table c.args.env.now (Var c.args.i) c.of_bound.result c.requires.ready (variable_made c.args.level.now.scope.now.sig (map formula_of c.args.level.now.scope.now.bodies) c.args.level.now.below c.args.table.now c.args.env.now c.args.i c.at-bound.result c.at-bound.ensures.value c.of_bound.new.table c.of_bound.result c.of_bound.ensures.core c.of_bound.ensures.effect)
