use Rattle.std.proofs.Common.{◌-◌, take, All, Contains, length}
use Rattle.ct_sat.specs.Up.{IsAssigned}
use Rattle.ct_sat.proofs.decision.lowest.Given as goal

abbrev pub invariant-variables : goal.invariant-variables
invariant-variables l = All (IsAssigned (Contains l.trail.literals)) (take l.cursor l.variables)

abbrev pub decreases-variables : goal.decreases-variables
decreases-variables l = length l.variables - l.cursor
