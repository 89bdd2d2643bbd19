use Rattle.std.proofs.Common.{length}
use Rattle.ct_occurrence.specs.Marks.{worked_in}
use Rattle.ct_occurrence.proofs.UnderWayLemmas.{AreLeft}
use Rattle.ct_occurrence.proofs.under_way.next_unknown.Given as goal

abbrev pub invariant-loop-name : goal.invariant-loop-name
invariant-loop-name l = AreLeft (worked_in l.definitions) l.initial.left.items l.left.items

abbrev pub decreases-loop-name : goal.decreases-loop-name
decreases-loop-name l = length l.left.items
