use Rattle.std.proofs.Common.{◌≡◌, ◌≤◌, length, cond}
use Rattle.ct_sexpr.specs.Token.{after_text, after_mark}
use Rattle.ct_input.proofs.parts.after_text.Given as goal

abbrev pub invariant-loop-rest : goal.invariant-loop-rest
invariant-loop-rest l = (after_text l.fn.bytes ≡ cond l.is_after_mark (after_mark l.rest) (after_text l.rest)) × (length l.rest ≤ length l.fn.bytes)

abbrev pub decreases-loop-rest : goal.decreases-loop-rest
decreases-loop-rest l = length l.rest
