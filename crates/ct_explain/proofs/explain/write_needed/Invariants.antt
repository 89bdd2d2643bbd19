use Rattle.std.proofs.Common.{◌≡◌, ◌<◌, ℕ, length}
use Rattle.ct_explain.specs.Resting.{HasNumber, IsMarked}
use Rattle.ct_explain.specs.Writing.{HasWrittenMore, AreDone}
use Rattle.ct_explain.proofs.explain.write_needed.Given as goal

abbrev pub invariant-loop-k : goal.invariant-loop-k
invariant-loop-k l = record {
  grown : HasWrittenMore l.classes l.initial.writer l.writer;
  long : length l.done.items ≡ length l.classes.merges;
  done : AreDone l.writer l.classes.merges l.done.items;
  marked : (j : ℕ) → j < l.k → IsMarked l.marks j → HasNumber l.done.items j;
}
