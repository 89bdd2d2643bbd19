use Rattle.std.proofs.Common.{◌≡◌, ◌-◌, List, length}
use Rattle.ct_generics.specs.Expression.{Expression}
use Rattle.ct_generics.specs.Occurrence.{ArePartMarks}
use Rattle.ct_generics.proofs.occurring.mark_parts.Given as goal

abbrev pub invariant-loop-step : goal.invariant-loop-step
invariant-loop-step l = record {
  long : length l.marks ≡ length l.template;
  marks : (row : List Expression) → ArePartMarks l.template row (length l.template) l.initial.marks → ArePartMarks l.template row (length l.template - l.step) l.marks;
}
