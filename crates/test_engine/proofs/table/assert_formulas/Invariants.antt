use Rattle.test_engine.specs.Asserted.{IsAsserted}
use Rattle.test_engine.proofs.table.assert_formulas.Given as goal

abbrev pub invariant-loop-expr : goal.invariant-loop-expr
invariant-loop-expr l = IsAsserted l.scope.sig l.table.value l.asserts.items
