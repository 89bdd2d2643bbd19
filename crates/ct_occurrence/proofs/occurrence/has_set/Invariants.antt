use Rattle.std.proofs.Common.{◌≡◌, length}
use Rattle.ct_occurrence.specs.Marks.{has_set}
use Rattle.ct_occurrence.proofs.occurrence.has_set.Given as goal

abbrev pub invariant-loop-rest : goal.invariant-loop-rest
invariant-loop-rest l = has_set l.flags ≡ has_set l.rest

abbrev pub decreases-loop-rest : goal.decreases-loop-rest
decreases-loop-rest l = length l.rest
