use Rattle.std.proofs.Common.{◌≡◌, length}
use Rattle.ct_congr.specs.Rules.{AreShapes}
use Rattle.ct_congr.proofs.constructors.shapes.Given as goal

abbrev pub invariant-loop-t : goal.invariant-loop-t
invariant-loop-t l = record {
  long : length l.shapes.items ≡ length l.reps;
  shapes : AreShapes l.table l.reps l.t l.shapes.items;
}
