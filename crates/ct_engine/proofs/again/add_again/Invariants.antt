use Rattle.std.proofs.Common.{◌≡◌, ◌≤◌, []}
use Rattle.ct_engine.specs.Progress.{IsUnderWay, IsOfOneTask, AreUpTo}
use Rattle.ct_engine.proofs.again.add_again.Given as goal

abbrev pub invariant-numbers : goal.invariant-numbers
invariant-numbers l = record {
  under_way : IsUnderWay l.course;
  same : IsOfOneTask l.fn.course l.course;
  start : l.course.search.decided ≡ [];
  up_to : AreUpTo l.course.search.clauses l.last;
  past : l.course.initial ≤ l.last;
}
