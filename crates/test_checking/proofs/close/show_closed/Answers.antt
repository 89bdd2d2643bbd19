use Rattle.std.proofs.Common.{All, subst, sym}
use Rattle.ct_terms.specs.Terms.{Terms, IsBoolean}
use Rattle.ct_closure.specs.ClosedTable.{AreSubtermsOf}
use Rattle.test_checking.proofs.close.show_closed.Goals as goal

pub close-closed-requires-clause-asserts : goal.close-closed-requires-clause-asserts
close-closed-requires-clause-asserts c =
    subst (λ (table : Terms). All (IsBoolean table) c.deref-2.result.now) (sym c.deref_mut.ensures.value)
    (subst (All (IsBoolean c.in_ok-table.table.value)) (sym c.deref-2.ensures.value) c.in_ok-table.ensures.asserted.boolean)

pub close-closed-requires-clause-exact : goal.close-closed-requires-clause-exact
close-closed-requires-clause-exact c =
    subst (λ (table : Terms). AreSubtermsOf table c.deref-2.result.now) (sym c.deref_mut.ensures.value)
    (subst (AreSubtermsOf c.in_ok-table.table.value) (sym c.deref-2.ensures.value) c.in_ok-table.ensures.asserted.exact)
