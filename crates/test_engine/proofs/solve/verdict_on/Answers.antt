use Rattle.std.proofs.Common.{All, subst, sym}
use Rattle.ct_terms.specs.Terms.{Terms, AreSorted, IsBoolean}
use Rattle.ct_closure.specs.ClosedTable.{AreSubtermsOf}
use Rattle.test_engine.proofs.solve.verdict_on.Goals as goal

pub solve-requires-clause-sorted : goal.solve-requires-clause-sorted
solve-requires-clause-sorted c = subst (AreSorted c.args.scope.now.sig) (sym c.deref.ensures) c.requires.asserted.sorted

pub solve-requires-clause-asserts : goal.solve-requires-clause-asserts
solve-requires-clause-asserts c =
    subst (λ (table : Terms). All (IsBoolean table) c.deref-2.result.now) (sym c.deref.ensures)
    (subst (All (IsBoolean c.args.formulas.now.table.value)) (sym c.deref-2.ensures.value) c.requires.asserted.boolean)

pub solve-requires-clause-exact : goal.solve-requires-clause-exact
solve-requires-clause-exact c =
    subst (λ (table : Terms). AreSubtermsOf table c.deref-2.result.now) (sym c.deref.ensures)
    (subst (AreSubtermsOf c.args.formulas.now.table.value) (sym c.deref-2.ensures.value) c.requires.asserted.exact)
