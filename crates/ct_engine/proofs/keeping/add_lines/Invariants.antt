use Rattle.std.proofs.Common.{◌≡◌, ◌++◌, [], length}
use Rattle.std.specs.Vec.Iter.{into_iter_items, into_iter_len}
use Rattle.ct_engine.specs.Progress.{IsUnderWay, IsOfOneTask}
use Rattle.ct_engine.specs.Keeping.{adds_after}
use Rattle.ct_engine.proofs.keeping.add_lines.Given as goal

abbrev pub invariant-lines : goal.invariant-lines
invariant-lines l = record {
  under_way : IsUnderWay l.course;
  same : IsOfOneTask l.fn.course l.course;
  start : l.course.search.decided ≡ [];
  yielded : l.yielded ++ into_iter_items l.line-iterator ≡ l.fn.lines.items;
  counted : into_iter_len l.line-iterator ≡ length (into_iter_items l.line-iterator);
  added : l.course.derivation.rec.lines ≡ l.fn.course.derivation.rec.lines ++ l.yielded;
  moves : l.course.moves.items ≡ l.fn.course.moves.items ++ adds_after (length l.fn.course.derivation.rec.lines) (length l.yielded);
}
