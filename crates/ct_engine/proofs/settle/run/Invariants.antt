use Rattle.std.proofs.Common.{◌-◌}
use Rattle.ct_engine.specs.Progress.{IsUnderWay, IsOfOneTask, IsTheoryOf, IsAsked}
use Rattle.ct_engine.proofs.settle.run.Given as goal

abbrev pub invariant-decisions : goal.invariant-decisions
invariant-decisions l = record {
  under_way : IsUnderWay l.course;
  theory : IsTheoryOf l.course l.theory;
  asked : IsAsked l.course l.theory l.asked;
  same : IsOfOneTask l.fn.course l.course;
}

abbrev pub decreases-decisions : goal.decreases-decisions
decreases-decisions l = l.course.search.budget - l.course.search.count
