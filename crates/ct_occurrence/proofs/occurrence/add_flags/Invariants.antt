use Rattle.std.proofs.Common.{◌≡◌, ◌++◌, false, replicate}
use Rattle.ct_occurrence.proofs.occurrence.add_flags.Given as goal

abbrev pub invariant-loop-left : goal.invariant-loop-left
invariant-loop-left l = l.flags.items ++ replicate l.left false ≡ l.initial.flags.items ++ replicate l.count false

abbrev pub decreases-loop-left : goal.decreases-loop-left
decreases-loop-left l = l.left
