use Rattle.std.proofs.Common.{subst, sym}
use Rattle.ct_terms.specs.Terms.{Terms}
use Rattle.test_engine.specs.Asserted.{IsAsserted}
use Rattle.test_engine.proofs.table.assert_formulas.Goals as goal

pub assert_formula-requires-clause-before : goal.assert_formula-requires-clause-before
assert_formula-requires-clause-before c =
    subst (λ (table : Terms). IsAsserted c.args.scope.now.sig table c.loop-expr.asserts.items) (sym c.deref_mut.ensures.value) c.loop-expr.invariant
