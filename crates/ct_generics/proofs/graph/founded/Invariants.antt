use Rattle.std.proofs.Common.{◌≡◌, length}
use Rattle.ct_generics.specs.Marks.{AreMarksSound, unmarked}
use Rattle.ct_generics.proofs.graph.founded.Given as goal

abbrev pub invariant-loop-slots : goal.invariant-loop-slots
invariant-loop-slots l = record { whole : length l.slots ≡ length l.graph; sound : AreMarksSound l.graph l.slots }

abbrev pub decreases-loop-slots : goal.decreases-loop-slots
decreases-loop-slots l = unmarked l.slots
