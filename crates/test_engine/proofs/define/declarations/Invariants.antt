use Rattle.std.proofs.Common.{◌≡◌, []}
use Rattle.test_engine.proofs.define.declarations.Given as goal

abbrev pub invariant-loop-step : goal.invariant-loop-step
invariant-loop-step l = l.scope.value.bodies ≡ []
