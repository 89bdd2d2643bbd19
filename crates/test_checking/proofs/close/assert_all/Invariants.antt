use Rattle.test_checking.specs.Asserted.{IsAsserted}
use Rattle.test_checking.proofs.close.assert_all.Given as goal

abbrev pub invariant-loop-expr : goal.invariant-loop-expr
invariant-loop-expr l = IsAsserted l.scope.sig l.table.value l.asserts.items
