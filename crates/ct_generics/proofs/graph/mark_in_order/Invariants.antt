use Rattle.std.proofs.Common.{◌≡◌, length}
use Rattle.ct_generics.specs.Marks.{AreMarksSound}
use Rattle.ct_generics.proofs.graph.mark_in_order.Given as goal

abbrev pub invariant-loop-i : goal.invariant-loop-i
invariant-loop-i l = record { whole : length l.marks ≡ length l.graph; sound : AreMarksSound l.graph l.initial.marks → AreMarksSound l.graph l.marks }
