use Rattle.ct_sorts.specs.Grown.{Extends}
use Rattle.test_reading.proofs.declarations.answer_steps.Given as goal

abbrev pub invariant-loop-step : goal.invariant-loop-step
invariant-loop-step l = Extends l.sig l.fn.sig
