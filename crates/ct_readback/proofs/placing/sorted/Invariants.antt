use Rattle.std.proofs.Common.{◌≡◌, take}
use Rattle.std.specs.List.{filter}
use Rattle.ct_readback.specs.Descent.{has_some}
use Rattle.ct_readback.proofs.placing.sorted.Given as goal

abbrev pub invariant-loop-point : goal.invariant-loop-point
invariant-loop-point l = l.list.items ≡ filter (has_some l.sorts) (take l.point-index l.points)
