use Rattle.ct_trial.proofs.SameCopyLemmas.{node_next}
use Rattle.ct_trial.proofs.same.is_next_node.Goals as goal

pub returns-then-is_head : goal.returns-then-is_head
returns-then-is_head c = record {
  same = λ yes so_far.
      node_next c.args.graph.now c.args.other.now c.args.n.0 c.head.result c.head-2.result c.children.result.now c.children-then-is_head.result.now c.requires.within c.requires.there
      c.head.ensures.value c.head-2.ensures.value c.children.ensures.value c.children-then-is_head.ensures.value (c.is_head.ensures.same c.if-is_head.true) (c.are_nodes.ensures.same yes) so_far;
}
