use Rattle.std.proofs.Common.{◌+◌, ◌<◌, Bool, true, length, Vec, Global, ap, arith}
use Rattle.ct_values.specs.declared.node.NodeId.{NodeId}
use Rattle.ct_values.proofs.PostorderLemmas.{read-is, walked-start, walked-met, walked-walk, walked-same, walked-end}
use Rattle.ct_values.proofs.postorder.postorder.Goals as goal
use Rattle.ct_values.proofs.postorder.postorder.Goals.{then-not-index+in_ok-walk, else-not-index}

pub loop-n-init : goal.loop-n-init
loop-n-init c = walked-start c.args.graph.now c.len.result c.in_ok-met.met.items c.in_ok-order.order.items c.len.ensures.count c.in_ok-met.ensures.none c.in_ok-order.ensures.items

pub index-requires : goal.index-requires
index-requires c = omega (arith, c.loop-n-test.true, c.len-n-end.ensures.count, c.loop-n.invariant.0)

pub walk-requires : goal.walk-requires
walk-requires c = record {
  within = omega (arith, c.loop-n-test.true, c.len-n-end.ensures.count);
  long = c.loop-n.invariant.0;
  order_within = c.loop-n.invariant.1;
  each = c.loop-n.invariant.2;
}

pub loop-n-preserved : goal.loop-n-preserved
loop-n-preserved c =
    let g = c.args.graph.now in
    let n = c.loop-n.n in
    let met = c.loop-n.met.items in
    let order = c.loop-n.order.items in
    elim c.if-not-index.branch [
      | then-not-index+in_ok-walk w ↦
          let met_new = w.walk.new.met.items in
          let order_new = w.walk.new.order.items in
          let done = w.in_ok-walk.ensures in
          walked-same g (n + 1) met_new c.if-not-index.met.items order_new c.if-not-index.order.items (ap (λ (v : Vec Bool Global). v.items) w.met-is) (ap (λ (v : Vec NodeId Global). v.items) w.order-is)
          (walked-walk g n met met_new order order_new done.long done.order_within done.each done.stay done.from c.loop-n.invariant)
      | else-not-index w ↦
          let within : n < length met = omega (arith, c.loop-n-test.true, c.len-n-end.ensures.count, c.loop-n.invariant.0) in
          walked-same g (n + 1) met c.if-not-index.met.items order c.if-not-index.order.items (ap (λ (v : Vec Bool Global). v.items) w.met-is) (ap (λ (v : Vec NodeId Global). v.items) w.order-is)
          (walked-met g n met order (read-is met n c.index.result.now true within c.index.ensures w.if-not-index.false) c.loop-n.invariant)
    ]

pub returns : goal.returns
returns c = record {
  within = c.loop-n.invariant.1;
  each = walked-end c.args.graph.now c.loop-n.n c.loop-n.met.items c.loop-n.order.items (omega (arith, c.loop-n-test.false, c.len-n-end.ensures.count)) c.loop-n.invariant;
}
