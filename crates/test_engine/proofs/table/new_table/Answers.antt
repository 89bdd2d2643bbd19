use Rattle.std.proofs.Common.{[], subst, sym}
use Rattle.ct_terms.specs.Terms.{Terms}
use Rattle.test_engine.specs.Asserted.{IsAsserted}
use Rattle.test_engine.proofs.AssertedLemmas.{truths_asserted}
use Rattle.test_engine.proofs.table.new_table.Goals as goal

pub returns-in_ok-new-in-Ok : goal.returns-in_ok-new-in-Ok
returns-in_ok-new-in-Ok c =
    let sorted = c.in-Ok.ensures.sorted c.args.sig.now c.extends_start.ensures.grown in
    record {
      asserted =
          subst (λ (table : Terms). IsAsserted c.args.sig.now table []) (sym c.in_ok-new-in-Ok.ensures.ok)
          (truths_asserted c.core_trees.ensures.unfolds c.core_trees.ensures.subterms c.args.sig.now c.in-Ok.table c.in-Ok.ensures.ok c.len.ensures.ordered sorted);
    }
