use Rattle.ct_finite.specs.Counting.{IsUnderWay}
use Rattle.ct_finite.proofs.known.spread.Given as goal

abbrev pub invariant-loop-s : goal.invariant-loop-s
invariant-loop-s l = IsUnderWay l.sig l.counts.items

abbrev pub invariant-loop-i : goal.invariant-loop-i
invariant-loop-i l = IsUnderWay l.sig l.counts.items
