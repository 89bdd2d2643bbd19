use Rattle.std.proofs.Common.{take}
use Rattle.std.specs.List.{AllZip}
use Rattle.ct_readback.specs.Placed.{StandsAt}
use Rattle.ct_readback.proofs.placing.children_moved.Given as goal

abbrev pub invariant-loop-child : goal.invariant-loop-child
invariant-loop-child l = AllZip (StandsAt l.places) l.all.items (take l.child-index l.children)
