use Rattle.ct_engine.specs.Progress.{IsOfOneTask, IsTheoryOf, IsAsked}
use Rattle.ct_engine.specs.Opening.{IsOpening}
use Rattle.ct_engine.proofs.opening.add_implied.Given as goal

abbrev pub invariant-rounds : goal.invariant-rounds
invariant-rounds l = record {
  opening : IsOpening l.fn.sig l.fn.sizes l.course l.room;
  theory : IsTheoryOf l.course l.theory;
  asked : IsAsked l.course l.theory l.asked;
  same : IsOfOneTask l.fn.course l.course;
}
