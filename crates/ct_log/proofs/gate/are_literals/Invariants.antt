use Rattle.std.proofs.Common.{◌≡◌, take, map}
use Rattle.ct_terms.specs.Literal.{literal_of}
use Rattle.ct_log.specs.Look.{signed}
use Rattle.ct_log.proofs.gate.are_literals.Given as goal

abbrev pub invariant-loop-i : goal.invariant-loop-i
invariant-loop-i l = take l.i l.literals ≡ map (λ a. signed l.keep (literal_of l.table a)) (take l.i l.args)
