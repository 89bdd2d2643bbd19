use Rattle.std.proofs.Common.{◌≡◌, ◌≤◌, length, cond}
use Rattle.ct_sexpr.specs.Whitespace as whitespace
use Rattle.ct_input.proofs.places.after_whitespace.Given as goal

abbrev pub invariant-loop-rest : goal.invariant-loop-rest
invariant-loop-rest l = (whitespace.after_whitespace l.fn.bytes ≡ cond l.in_comment (whitespace.after_comment l.rest) (whitespace.after_whitespace l.rest)) × (length l.rest ≤ length l.fn.bytes)

abbrev pub decreases-loop-rest : goal.decreases-loop-rest
decreases-loop-rest l = length l.rest
