use Rattle.std.proofs.Common.{length}
use Rattle.ct_step.proofs.LogicLemmas.{IsAmongRest}
use Rattle.ct_step.proofs.logics.has_part.Given as goal

abbrev pub invariant-loop-part : goal.invariant-loop-part
invariant-loop-part l = IsAmongRest l.wanted l.name l.left

abbrev pub decreases-loop-part : goal.decreases-loop-part
decreases-loop-part l = length l.left
