use Rattle.std.proofs.Common.{arith}
use Rattle.ct_generics.proofs.SubstitutionLemmas.{length-push}
use Rattle.ct_generics.proofs.ShapeLemmas.{AreShapes-push}
use Rattle.ct_generics.proofs.shape.shapes.Goals as goal

pub loop-k-preserved : goal.loop-k-preserved
loop-k-preserved c =
    let shapes = c.loop-k.shapes.items in
    let shape = c.node_shape-shape.result in
    record {
      long = rw c.in_ok-push.ensures.items (omega (arith, c.loop-k.invariant.long, length-push shapes shape));
      known = rw c.in_ok-push.ensures.items (AreShapes-push c.args.first c.args.params c.args.table.now shapes shape c.loop-k.invariant.known (λ e stands. c.node_shape-shape.ensures.shape e c.len.ensures.ordered (rw c.as_slice.ensures.value c.loop-k.invariant.known) (rw (c.as_slice.ensures.value, c.loop-k.invariant.long) c.node-node.ensures.value) (rw c.as_slice.ensures.value stands)));
    }
