use Rattle.std.proofs.Common.{take}
use Rattle.ct_explain.specs.Writing.{HasWrittenMore, AreDone}
use Rattle.ct_explain.specs.Pairs.{ArePairsTold}
use Rattle.ct_explain.proofs.uniqueness.write_pairs.Given as goal

abbrev pub invariant-loop-e : goal.invariant-loop-e
invariant-loop-e l = record {
  grown : HasWrittenMore l.classes l.initial.writer l.writer;
  done : AreDone l.writer l.classes.merges l.done;
  told : ArePairsTold l.classes.terms l.writer l.equations (take l.e-index l.equations) l.pairs.items;
}
