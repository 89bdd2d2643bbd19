use Rattle.std.proofs.Common.{◌≡◌, ◌<◌, All, take, subst, arith, take_all}
use Rattle.std.proofs.lemmas.List.Elements.{All-more}
use Rattle.ct_values.specs.declared.node.NodeId.{NodeId}
use Rattle.ct_values.proofs.graph.are_below.Goals as goal

pub returns-then-n-bound : goal.returns-then-n-bound
returns-then-n-bound c =
    let first : NodeId = record { 0 = 0 } in
    record { value = (λ e. cc, λ all. absurd (omega (arith, all c.loop-n.n-index first c.loop-n-test.true, c.if-n-bound.true))) }

pub loop-n-preserved : goal.loop-n-preserved
loop-n-preserved c =
    let first : NodeId = record { 0 = 0 } in
    All-more (λ n. n.0 < c.args.bound) c.args.nodes.now c.loop-n.n-index first c.loop-n-test.true c.loop-n.invariant c.if-n-bound.false

pub returns : goal.returns
returns c =
    let nodes = c.args.nodes.now in
    let done : take c.loop-n.n-index nodes ≡ nodes = take_all c.loop-n.n-index nodes (omega arith) in
    record { value = (λ e. subst (All (λ n. n.0 < c.args.bound)) done c.loop-n.invariant, λ all. cc) }
