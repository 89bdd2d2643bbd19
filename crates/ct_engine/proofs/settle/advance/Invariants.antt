use Rattle.std.proofs.Common.{◌≡◌, length}
use Rattle.ct_engine.specs.Progress.{IsUnderWay, IsOfOneTask, IsTheoryOf, IsAsked}
use Rattle.ct_engine.proofs.settle.advance.Given as goal

abbrev pub invariant-conflicts : goal.invariant-conflicts
invariant-conflicts l = record {
  under_way : IsUnderWay l.course;
  theory : IsTheoryOf l.course l.theory;
  asked : IsAsked l.course l.theory l.asked;
  same : IsOfOneTask l.fn.course l.course;
  counted : l.course.search.count ≡ l.fn.course.search.count;
}

abbrev pub decreases-conflicts : goal.decreases-conflicts
decreases-conflicts l = length l.course.search.decided
