use Rattle.std.proofs.Common.{◌∷◌, map}
use Rattle.std.specs.List.{range_with_len}
use Rattle.ct_log.specs.declared.rules.Gate.TheVariants.{OrPos, OrNeg}
use Rattle.ct_log.specs.declared.line.Step.TheVariants as step
use Rattle.ct_clauses.specs.Initial.{whole}
use Rattle.ct_clauses.specs.Growth.{HaveGates}
use Rattle.ct_clauses.proofs.gates.push_disjunction.Given as goal

abbrev pub invariant-loop-place : goal.invariant-loop-place
invariant-loop-place l = HaveGates l.table l.fn.lines.items l.lines.items (whole OrPos l.t ∷ map (λ k. step.Gate OrNeg l.t k) (range_with_len 0 l.place))
