use Rattle.std.proofs.Common.{All, subst, sym}
use Rattle.ct_terms.specs.Terms.{Terms, AreSorted, IsBoolean}
use Rattle.ct_closure.specs.ClosedTable.{AreSubtermsOf}
use Rattle.test_engine.proofs.keep.verdict_over.Goals as goal

pub solve_kept-requires-clause-sorted : goal.solve_kept-requires-clause-sorted
solve_kept-requires-clause-sorted c = subst (AreSorted c.args.scope.now.sig) (sym c.deref-2.ensures) c.requires.asserted.sorted

pub solve_kept-requires-clause-asserts : goal.solve_kept-requires-clause-asserts
solve_kept-requires-clause-asserts c =
    subst (λ (table : Terms). All (IsBoolean table) c.deref-3.result.now) (sym c.deref-2.ensures)
    (subst (All (IsBoolean c.args.formulas.now.table.value)) (sym c.deref-3.ensures.value) c.requires.asserted.boolean)

pub solve_kept-requires-clause-exact : goal.solve_kept-requires-clause-exact
solve_kept-requires-clause-exact c =
    subst (λ (table : Terms). AreSubtermsOf table c.deref-3.result.now) (sym c.deref-2.ensures)
    (subst (AreSubtermsOf c.args.formulas.now.table.value) (sym c.deref-3.ensures.value) c.requires.asserted.exact)
