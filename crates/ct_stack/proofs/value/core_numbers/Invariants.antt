use Rattle.std.proofs.Common.{length, map, All}
use Rattle.ct_formulas.specs.TreeFormula.{formula_of}
use Rattle.ct_stack.specs.Held.{context_in}
use Rattle.ct_stack.specs.Sorts.{HasSomeSort}
use Rattle.ct_stack.proofs.GrowingLemmas.{IsUnderWay}
use Rattle.ct_stack.proofs.value.core_numbers.Given as goal

abbrev pub invariant-loop-left : goal.invariant-loop-left
invariant-loop-left l = IsUnderWay (context_in l.scope) (map formula_of l.trees) (map formula_of l.left) l.initial.table l.table l.numbers.items × All (HasSomeSort l.scope.sig) l.left

abbrev pub decreases-loop-left : goal.decreases-loop-left
decreases-loop-left l = length l.left
