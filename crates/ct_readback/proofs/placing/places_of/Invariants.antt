use Rattle.ct_readback.proofs.PlaceSteps.{ArePlacedSoFar}
use Rattle.ct_readback.proofs.placing.places_of.Given as goal

abbrev pub invariant-loop-index : goal.invariant-loop-index
invariant-loop-index l = ArePlacedSoFar l.base l.count l.points l.index l.places.items
