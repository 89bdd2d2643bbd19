use Rattle.std.proofs.Common.{◌≤◌, ◌-◌, length}
use Rattle.ct_terms.specs.declared.ids.TermId.{TermId}
use Rattle.ct_closure.specs.Steps.{IsMarked}
use Rattle.ct_closure.proofs.further.no_marks.Given as goal

abbrev pub invariant-loop-marks : goal.invariant-loop-marks
invariant-loop-marks l = record { few : length l.marks.items ≤ l.count; none : (t : TermId) → IsMarked l.marks.items t → ⊥ }

abbrev pub decreases-loop-marks : goal.decreases-loop-marks
decreases-loop-marks l = l.count - length l.marks.items
