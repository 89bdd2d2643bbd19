use Rattle.std.proofs.Common.{◌≡◌, ◌+◌, []}
use Rattle.ct_engine.specs.Progress.{IsUnderWay, IsOfOneTask, AreUpTo}
use Rattle.ct_engine.specs.Keeping.{adds_after}
use Rattle.ct_engine.proofs.again.add_first.Given as goal

abbrev pub invariant-lines : goal.invariant-lines
invariant-lines l = record {
  under_way : IsUnderWay l.course;
  same : IsOfOneTask l.fn.course l.course;
  start : l.course.search.decided ≡ [];
  up_to : AreUpTo l.course.search.clauses (l.before + l.index);
  moves : l.course.moves.items ≡ adds_after l.before l.index;
}
