use Rattle.std.proofs.Common.{◌≡◌, Contains}
use Rattle.ct_sat.proofs.choose.latest.Given as goal

abbrev pub invariant-loop-literal : goal.invariant-loop-literal
invariant-loop-literal l = Contains l.clause l.latest × (l.latest ≡ l.except → ⊥)
