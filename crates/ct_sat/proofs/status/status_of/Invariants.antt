use Rattle.std.proofs.Common.{take}
use Rattle.ct_sat.specs.Status.{IsSeen}
use Rattle.ct_sat.proofs.status.status_of.Given as goal

abbrev pub invariant-loop-literal : goal.invariant-loop-literal
invariant-loop-literal l = IsSeen l.trail.literals (take l.literal-index l.clause) l.unit
