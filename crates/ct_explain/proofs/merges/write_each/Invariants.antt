use Rattle.std.proofs.Common.{take}
use Rattle.ct_explain.specs.Writing.{HasWrittenMore, AreDone, ToldEach}
use Rattle.ct_explain.proofs.merges.write_each.Given as goal

abbrev pub invariant-loop-i : goal.invariant-loop-i
invariant-loop-i l = record {
  grown : HasWrittenMore l.classes l.initial.writer l.writer;
  done : AreDone l.writer l.classes.merges l.done;
  told : ToldEach l.writer l.numbers.items (take l.i l.xs) (take l.i l.ys);
}
