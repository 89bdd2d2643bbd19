use Rattle.std.proofs.Common.{◌≡◌, ◌≤◌, length}
use Rattle.ct_sexpr.specs.TakeWhile.{drop_while}
use Rattle.ct_sexpr.specs.Atom.{is_word_byte}
use Rattle.ct_input.proofs.parts.after_word.Given as goal

abbrev pub invariant-loop-rest : goal.invariant-loop-rest
invariant-loop-rest l = (drop_while is_word_byte l.fn.bytes ≡ drop_while is_word_byte l.rest) × (length l.rest ≤ length l.fn.bytes)

abbrev pub decreases-loop-rest : goal.decreases-loop-rest
decreases-loop-rest l = length l.rest
