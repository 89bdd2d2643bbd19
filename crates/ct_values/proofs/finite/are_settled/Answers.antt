use Rattle.std.proofs.Common.{◌≡◌, ◌<◌, All, take, subst, arith, take_all}
use Rattle.std.proofs.lemmas.List.Elements.{All-more}
use Rattle.ct_values.specs.declared.node.NodeId.{NodeId}
use Rattle.ct_values.specs.Partition.{class_at}
use Rattle.ct_values.proofs.finite.are_settled.Goals as goal

pub loop-n-preserved : goal.loop-n-preserved
loop-n-preserved c =
    let first : NodeId = record { 0 = 0 } in
    All-more (λ n. 0 < class_at c.args.classes.now n.0) c.args.nodes.now c.loop-n.n-index first c.loop-n-test.true c.loop-n.invariant (omega (arith, c.if-classes-n-eq0.false))

pub returns : goal.returns
returns c =
    let nodes = c.args.nodes.now in
    let done : take c.loop-n.n-index nodes ≡ nodes = take_all c.loop-n.n-index nodes (omega arith) in
    record { value = subst (All (λ n. 0 < class_at c.args.classes.now n.0)) done c.loop-n.invariant }
