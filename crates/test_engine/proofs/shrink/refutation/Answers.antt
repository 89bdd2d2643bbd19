use Rattle.std.proofs.Common.{All, subst, sym}
use Rattle.ct_terms.specs.Terms.{Terms, IsBoolean}
use Rattle.test_engine.proofs.shrink.refutation.Goals as goal

pub solve-requires-clause-asserts : goal.solve-requires-clause-asserts
solve-requires-clause-asserts c =
    subst (λ (table : Terms). All (IsBoolean table) c.deref-2.result.now) (sym c.deref.ensures)
    (subst (All (IsBoolean c.args.formulas.now.table.value)) (sym c.deref-2.ensures.value) c.requires.asserted.boolean)
