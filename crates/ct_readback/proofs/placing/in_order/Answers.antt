use Rattle.std.proofs.Common.{take, get_or}
use Rattle.std.proofs.lemmas.List.{take_more}
use Rattle.ct_lemmas.proofs.Pairs.{AllZip-push}
use Rattle.ct_readback.specs.Placed.{IsMoved}
use Rattle.ct_readback.proofs.placing.in_order.Goals as goal

pub loop-point-preserved : goal.loop-point-preserved
loop-point-preserved c =
    let points = c.args.points.now in
    rw (take_more points c.loop-point.point-index 0 c.loop-point-test.true, c.in_ok-push.ensures.items)
    (AllZip-push (IsMoved c.args.h.now c.args.places.now) (take c.loop-point.point-index points) c.loop-point.nodes.items (get_or points c.loop-point.point-index 0) c.in_ok-moved.field-0 c.loop-point.invariant c.in_ok-moved.ensures.moved)
