use Rattle.ct_finite.specs.Counting.{IsUnderWay, missing}
use Rattle.ct_finite.proofs.known.known_counts.Given as goal

abbrev pub invariant-loop : goal.invariant-loop
invariant-loop l = IsUnderWay l.sig l.counts.items

abbrev pub decreases-loop : goal.decreases-loop
decreases-loop l = missing l.counts.items
