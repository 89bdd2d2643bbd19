use Rattle.std.proofs.Common.{get_or, take}
use Rattle.std.proofs.lemmas.List.{take_more}
use Rattle.std.proofs.lemmas.List.Elements.{AllZip-push}
use Rattle.ct_values.specs.declared.node.NodeId.{NodeId}
use Rattle.ct_values.specs.Agreement.{node_point}
use Rattle.ct_values.specs.Sharing.{IsRepresentative}
use Rattle.ct_eval.proofs.index.representatives.Goals as goal

pub loop-n-preserved : goal.loop-n-preserved
loop-n-preserved c =
    let g = c.args.shared.now in
    let nodes = c.args.nodes.now in
    let none : NodeId = record { 0 = 0 } in
    rw (c.in_ok-push.ensures.items, take_more nodes c.loop-n.n-index none c.loop-n-test.true)
    (AllZip-push (λ m n. IsRepresentative g (node_point g n) m) c.loop-n.list.items (take c.loop-n.n-index nodes) c.first.result (get_or nodes c.loop-n.n-index none) c.loop-n.invariant c.first.ensures.first)
