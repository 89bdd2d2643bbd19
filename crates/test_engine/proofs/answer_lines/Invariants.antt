use Rattle.test_engine.specs.Scopes.{IsSound}
use Rattle.test_engine.proofs.answer_lines.Given as goal

abbrev pub invariant-loop-line : goal.invariant-loop-line
invariant-loop-line l = IsSound l.scope.value
