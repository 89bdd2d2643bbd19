use Rattle.std.proofs.Common.{All, subst, sym}
use Rattle.ct_terms.specs.Terms.{Terms, AreSorted, IsBoolean}
use Rattle.test_engine.proofs.model.show_model.Goals as goal

pub holds-requires-clause-sorted : goal.holds-requires-clause-sorted
holds-requires-clause-sorted c = subst (AreSorted c.args.sig.now) (sym c.deref.ensures) c.requires.asserted.sorted

pub holds-requires-clause-booleans : goal.holds-requires-clause-booleans
holds-requires-clause-booleans c =
    subst (λ (table : Terms). All (IsBoolean table) c.deref-2.result.now) (sym c.deref.ensures)
    (subst (All (IsBoolean c.args.formulas.now.table.value)) (sym c.deref-2.ensures.value) c.requires.asserted.boolean)
