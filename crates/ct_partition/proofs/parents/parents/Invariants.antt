use Rattle.ct_partition.specs.Points.{points}
use Rattle.ct_partition.proofs.WaitingLemmas.{AreParentsBelow}
use Rattle.ct_partition.proofs.parents.parents.Given as goal

abbrev pub invariant-loop-i : goal.invariant-loop-i
invariant-loop-i l = AreParentsBelow (points l.labels l.starts l.children) l.i l.rows.items
