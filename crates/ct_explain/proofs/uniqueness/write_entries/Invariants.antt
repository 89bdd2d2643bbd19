use Rattle.std.proofs.Common.{take}
use Rattle.ct_explain.specs.Writing.{HasWrittenMore, AreDone}
use Rattle.ct_explain.specs.Pairs.{ToldEntries}
use Rattle.ct_explain.proofs.uniqueness.write_entries.Given as goal

abbrev pub invariant-loop-i : goal.invariant-loop-i
invariant-loop-i l = record {
  grown : HasWrittenMore l.classes l.initial.writer l.writer;
  done : AreDone l.writer l.classes.merges l.done;
  told : ToldEntries l.writer l.equations l.entries.items (take l.i l.xs) (take l.i l.ys);
}
