use Rattle.ct_sorts.specs.Grown.{Extends}
use Rattle.test_reading.proofs.declarations.fill.Given as goal

abbrev pub invariant-loop-number : goal.invariant-loop-number
invariant-loop-number l = Extends l.sig l.fn.sig
