use Rattle.ct_closure.proofs.FurtherLemmas.{AreMarksOf}
use Rattle.ct_closure.proofs.further.marks_of.Given as goal

abbrev pub invariant-loop-t : goal.invariant-loop-t
invariant-loop-t l = AreMarksOf l.terms l.count l.marks.items l.t-index
