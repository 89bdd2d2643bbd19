use Rattle.std.proofs.Common.{subst}
use Rattle.ct_terms.specs.Terms.{HasArgumentsBelow}
use Rattle.ct_eval.specs.Evaluation.{value_of}
use Rattle.ct_eval.proofs.StepReady.{ready_at}
use Rattle.ct_eval.proofs.ValuationLemmas.{HaveNodes-next}
use Rattle.ct_eval.proofs.valuation.next_node.Goals as goal

pub node_of_term-requires-clause-ready : goal.node_of_term-requires-clause-ready
node_of_term-requires-clause-ready c =
    ready_at c.args.sig.now c.args.interp.now c.args.table.now c.args.shared.now c.args.nodes.now (value_of c.args.sig.now c.args.interp.now c.args.table.now)
    c.args.t.0 c.core.result.now c.requires.before.valued c.requires.sorted c.core.ensures.value
    (subst (λ n. HasArgumentsBelow n c.core.result.now) c.requires.next c.core.ensures.below)

pub returns : goal.returns
returns c = record {
  node =
      HaveNodes-next c.args.sig.now c.args.interp.now c.args.table.now c.representative_nodes.ensures.lasting c.len.ensures.ordered c.requires.sorted
      c.args.shared.now c.node_of_term.new.shared c.args.nodes.now c.args.t c.core.result.now c.node_of_term.result c.requires.before c.requires.next
      c.core.ensures.value c.node_of_term.ensures.grown c.node_of_term.ensures.value;
}
