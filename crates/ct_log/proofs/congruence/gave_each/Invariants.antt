use Rattle.std.proofs.Common.{◌↔◌, drop}
use Rattle.ct_log.specs.Equations.{GaveEach}
use Rattle.ct_log.proofs.congruence.gave_each.Given as goal

abbrev pub invariant-loop-i : goal.invariant-loop-i
invariant-loop-i l = GaveEach l.given (drop l.i l.steps) (drop l.i l.xs) (drop l.i l.ys) ↔ GaveEach l.given l.steps l.xs l.ys
