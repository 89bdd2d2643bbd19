use Rattle.std.proofs.Common.{◌≡◌, length}
use Rattle.ct_equivalence.specs.Places.{ArePlacesBelow}
use Rattle.ct_equivalence.proofs.places.list_places.Given as goal

abbrev pub invariant-loop-t : goal.invariant-loop-t
invariant-loop-t l = record { long : length l.places ≡ length l.table; places : ArePlacesBelow l.table l.t l.places }
