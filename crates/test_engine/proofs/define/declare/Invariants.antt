use Rattle.test_engine.specs.Scopes.{IsSound}
use Rattle.test_engine.proofs.define.declare.Given as goal

abbrev pub invariant-loop-step : goal.invariant-loop-step
invariant-loop-step l = IsSound l.scope.value
