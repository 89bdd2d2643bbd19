use Rattle.std.proofs.Common.{◌≡◌, take, All}
use Rattle.ct_sat.proofs.choose.another.Given as goal

abbrev pub invariant-loop-literal : goal.invariant-loop-literal
invariant-loop-literal l = All (λ k. k ≡ l.except) (take l.literal-index l.clause)
