use Rattle.std.proofs.Common.{◌≡◌, ◌≤◌, length}
use Rattle.ct_sexpr.specs.TakeWhile.{drop_while}
use Rattle.ct_sexpr.specs.Token.{is_in_quoted_symbol}
use Rattle.ct_input.proofs.parts.after_quoted.Given as goal

abbrev pub invariant-loop-rest : goal.invariant-loop-rest
invariant-loop-rest l = (drop_while is_in_quoted_symbol l.fn.bytes ≡ drop_while is_in_quoted_symbol l.rest) × (length l.rest ≤ length l.fn.bytes)

abbrev pub decreases-loop-rest : goal.decreases-loop-rest
decreases-loop-rest l = length l.rest
