use Rattle.ct_eval.proofs.ValuationLemmas.{IsValuation-nodes, IsValuation-booleans}
use Rattle.ct_eval.proofs.assertions.holds.Goals as goal

pub first_untrue-requires-clause-within : goal.first_untrue-requires-clause-within
first_untrue-requires-clause-within c =
    IsValuation-booleans c.args.sig.now c.args.interp.now c.args.table.now c.in_ok-valuation.valuation c.in_ok-valuation.ensures.valuation c.args.asserts.now c.requires.booleans

pub first_untrue-requires-clause-nodes : goal.first_untrue-requires-clause-nodes
first_untrue-requires-clause-nodes c =
    IsValuation-nodes c.args.sig.now c.args.interp.now c.args.table.now c.in_ok-valuation.valuation c.in_ok-valuation.ensures.valuation
