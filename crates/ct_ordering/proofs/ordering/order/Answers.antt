use Rattle.std.proofs.Common.{arith}
use Rattle.ct_ordering.specs.Graph.{graph}
use Rattle.ct_ordering.proofs.OrderLemmas.{order-done}
use Rattle.ct_ordering.proofs.ordering.order.Goals as goal

pub returns : goal.returns
returns c = record {
  ordered = order-done (graph c.args.starts.now c.args.kids.now) c.loop-point.search.colours.items c.loop-point.search.order.items c.loop-point.point (omega (arith, c.loop-point-test.false)) c.loop-point.invariant;
}
