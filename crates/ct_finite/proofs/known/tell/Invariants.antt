use Rattle.ct_finite.specs.Counting.{IsUnderWay}
use Rattle.ct_finite.proofs.known.tell.Given as goal

abbrev pub invariant-loop-s : goal.invariant-loop-s
invariant-loop-s l = IsUnderWay l.sig l.counts.items
