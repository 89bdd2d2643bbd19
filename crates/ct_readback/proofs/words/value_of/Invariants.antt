use Rattle.std.proofs.Common.{◌≡◌, drop}
use Rattle.ct_sexpr.specs.Atom.{value_after, numeral_value}
use Rattle.ct_readback.proofs.words.value_of.Given as goal

abbrev pub invariant-loop-digit : goal.invariant-loop-digit
invariant-loop-digit l = value_after l.value (drop l.digit-index l.digits) ≡ numeral_value l.digits
