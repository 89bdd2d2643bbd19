use Rattle.std.proofs.Common.{All, subst, sym}
use Rattle.ct_terms.specs.Terms.{Terms, IsBoolean}
use Rattle.test_engine.proofs.shrink.show.Goals as goal

pub shrink-requires-clause-asserts : goal.shrink-requires-clause-asserts
shrink-requires-clause-asserts c =
    subst (λ (table : Terms). All (IsBoolean table) c.deref-3.result.now) (sym c.deref-2.ensures)
    (subst (All (IsBoolean c.args.formulas.now.table.value)) (sym c.deref-3.ensures.value) c.requires.asserted.boolean)
