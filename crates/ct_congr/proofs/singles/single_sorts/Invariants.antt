use Rattle.std.proofs.Common.{◌≡◌, length}
use Rattle.ct_congr.proofs.SingleLemmas.{AreMarked}
use Rattle.ct_congr.proofs.singles.single_sorts.Given as goal

abbrev pub invariant-loop-s : goal.invariant-loop-s
invariant-loop-s l = record {
  long : length l.single.items ≡ l.s;
  marked : AreMarked l.sig l.single.items l.s;
}
