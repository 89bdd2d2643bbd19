use Rattle.ct_generics.specs.Declarations.{Declared}
use Rattle.ct_generics.specs.Stored.{AreDeclared}
use Rattle.test_reading.proofs.generics.answer_steps.Given as goal

abbrev pub invariant-loop-step : goal.invariant-loop-step
invariant-loop-step l = (d : Declared) × AreDeclared l.g d
