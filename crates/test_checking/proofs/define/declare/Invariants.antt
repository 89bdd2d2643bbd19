use Rattle.test_checking.specs.Scopes.{IsSound}
use Rattle.test_checking.proofs.define.declare.Given as goal

abbrev pub invariant-loop-step : goal.invariant-loop-step
invariant-loop-step l = IsSound l.scope.value
