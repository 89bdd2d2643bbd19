use Rattle.std.proofs.Common.{length}
use Rattle.ct_equivalence.specs.Chains.{IsEntry}
use Rattle.ct_equivalence.proofs.chained.find_last.Given as goal

abbrev pub invariant-loop-next : goal.invariant-loop-next
invariant-loop-next l = IsEntry l.rows (length l.tops) l.digest l.end l.next

abbrev pub decreases-loop-next : goal.decreases-loop-next
decreases-loop-next l = l.next
