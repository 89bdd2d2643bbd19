use Rattle.std.proofs.Common.{◌≡◌, length}
use Rattle.ct_equivalence.proofs.DigestLemmas.{AreDigestsBelow}
use Rattle.ct_equivalence.proofs.digests.wide_digests.Given as goal

abbrev pub invariant-loop-t : goal.invariant-loop-t
invariant-loop-t l = record { long : length l.digests.items ≡ l.t; digests : AreDigestsBelow l.table l.reps l.t l.digests.items }
