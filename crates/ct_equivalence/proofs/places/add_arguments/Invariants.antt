use Rattle.std.proofs.Common.{◌≡◌, length, take}
use Rattle.ct_equivalence.specs.Places.{IsPlaced}
use Rattle.ct_equivalence.proofs.places.add_arguments.Given as goal

abbrev pub invariant-loop-index : goal.invariant-loop-index
invariant-loop-index l = record { long : length l.places ≡ length l.initial.places; placed : IsPlaced l.t (take l.index l.args) l.initial.places l.places }
