use Rattle.ct_eval.proofs.ValuationLemmas.{HaveNodes-in, valuation_on_ok}
use Rattle.ct_eval.proofs.valuation.Evaluator.extend.Goals as goal

pub add_nodes-requires-clause-few : goal.add_nodes-requires-clause-few
add_nodes-requires-clause-few c =
    let begun = c.requires.begun in
    (HaveNodes-in c.args.sig.now c.args.interp.now begun.0 c.args.table.now c.len.ensures.ordered begun.1 c.args.self.now.shared c.args.self.now.nodes.items begun.2.few begun.2.found).1

pub add_nodes-requires-clause-before : goal.add_nodes-requires-clause-before
add_nodes-requires-clause-before c =
    let begun = c.requires.begun in
    (HaveNodes-in c.args.sig.now c.args.interp.now begun.0 c.args.table.now c.len.ensures.ordered begun.1 c.args.self.now.shared c.args.self.now.nodes.items begun.2.few begun.2.found).0

pub returns-clause-valuation : goal.returns-clause-valuation
returns-clause-valuation c =
    valuation_on_ok c.args.sig.now c.args.interp.now c.args.table.now c.add_nodes.result c.add_nodes.new.shared c.add_nodes.new.nodes.items c.add_nodes.ensures.nodes c.add_nodes.ensures.all
