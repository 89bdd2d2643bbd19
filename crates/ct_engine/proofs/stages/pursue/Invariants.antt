use Rattle.ct_engine.specs.Progress.{IsUnderWay, IsOfOneClosure, IsTheoryOf}
use Rattle.ct_engine.proofs.stages.pursue.Given as goal

abbrev pub invariant-rounds : goal.invariant-rounds
invariant-rounds l = record {
  under_way : IsUnderWay l.course;
  theory : IsTheoryOf l.course l.theory;
  same : IsOfOneClosure l.fn.course l.course;
}
