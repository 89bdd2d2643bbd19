use Rattle.std.proofs.Common.{◌≡◌, ◌⊎◌, take, All}
use Rattle.ct_terms.specs.Propagation.{IsFalseIn}
use Rattle.ct_sat.proofs.choose.replacement.Given as goal

abbrev pub invariant-loop-literal : goal.invariant-loop-literal
invariant-loop-literal l = All (λ k. (k ≡ l.except) ⊎ IsFalseIn l.trail.literals k) (take l.literal-index l.clause)
