use Rattle.std.proofs.Common.{length}
use Rattle.ct_equivalence.proofs.DigestLemmas.{IsUnderWay}
use Rattle.ct_equivalence.proofs.digests.exchange.Given as goal

abbrev pub decreases-loop-rest : goal.decreases-loop-rest
decreases-loop-rest l = length l.rest

abbrev pub invariant-loop-rest : goal.invariant-loop-rest
invariant-loop-rest l = IsUnderWay l.fn.old l.fn.new l.fn.places l.rest l.initial.digests.items l.digests.items
