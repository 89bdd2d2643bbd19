use Rattle.std.proofs.Common.{ℕ, ◌<◌, List}
use Rattle.ct_generics.specs.Expression.{Expression}
use Rattle.ct_generics.specs.Occurrence.{ArePartMarks, OccursIn}
use Rattle.ct_generics.proofs.occurring.are_params_marked.Given as goal

abbrev pub invariant-loop-i : goal.invariant-loop-i
invariant-loop-i l = (row : List Expression) (k : ℕ) → ArePartMarks l.template row 0 l.marks → k < l.i → OccursIn row k
