use Rattle.ct_engine.specs.Progress.{IsOfOneTask}
use Rattle.ct_engine.specs.Opening.{IsOpening}
use Rattle.ct_engine.proofs.opening.add_lemmas.Given as goal

abbrev pub invariant-terms : goal.invariant-terms
invariant-terms l = record {
  opening : IsOpening l.fn.sig l.fn.sizes l.course l.room;
  same : IsOfOneTask l.fn.course l.course;
}
