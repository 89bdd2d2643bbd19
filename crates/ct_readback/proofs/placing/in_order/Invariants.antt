use Rattle.std.proofs.Common.{take}
use Rattle.std.specs.List.{AllZip}
use Rattle.ct_readback.specs.Placed.{IsMoved}
use Rattle.ct_readback.proofs.placing.in_order.Given as goal

abbrev pub invariant-loop-point : goal.invariant-loop-point
invariant-loop-point l = AllZip (IsMoved l.h l.places) (take l.point-index l.points) l.nodes.items
