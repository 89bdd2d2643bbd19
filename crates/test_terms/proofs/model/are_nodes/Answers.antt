use Rattle.std.proofs.Common.{All, subst}
use Rattle.std.proofs.lemmas.List.{take_all}
use Rattle.std.proofs.lemmas.List.Elements.{All-more}
use Rattle.ct_model.specs.Within.{IsNode}
use Rattle.test_terms.proofs.model.are_nodes.Goals as goal

pub loop-n-preserved : goal.loop-n-preserved
loop-n-preserved c =
    All-more (IsNode c.args.graph.now) c.args.nodes.now c.loop-n.n-index (record { 0 = 0 }) c.loop-n-test.true c.loop-n.invariant (c.is_node.ensures.within c.if-not-is_node.false)

pub returns : goal.returns
returns c = record {
  within = λ e. subst (All (IsNode c.args.graph.now)) (take_all c.loop-n.n-index c.args.nodes.now c.loop-n-test.false) c.loop-n.invariant;
}
