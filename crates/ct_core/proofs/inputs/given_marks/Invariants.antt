use Rattle.std.proofs.Common.{◌≡◌, length}
use Rattle.ct_core.specs.Inputs.{AreGivenMarks}
use Rattle.ct_core.proofs.inputs.given_marks.Given as goal

abbrev pub invariant-loop-index : goal.invariant-loop-index
invariant-loop-index l = record {
  long : length l.given.items ≡ l.count;
  given : AreGivenMarks l.marks l.lines l.index l.given.items;
}
