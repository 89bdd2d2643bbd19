use Rattle.std.proofs.Common.{map}
use Rattle.ct_formulas.specs.TreeFormula.{formula_of}
use Rattle.ct_occurrence.specs.Marks.{worked_in}
use Rattle.ct_compile.proofs.AttemptLemmas.{IsUnderWay}
use Rattle.ct_compile.proofs.deferring.compile_deferring.Given as goal

abbrev pub invariant-loop : goal.invariant-loop
invariant-loop l = IsUnderWay l.scope.sig (map formula_of l.scope.bodies) (worked_in l.definitions) l.below (formula_of l.tree) l.initial.table l.table l.known l.calls.items
