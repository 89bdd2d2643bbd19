use Rattle.std.proofs.Common.{take}
use Rattle.ct_partition.specs.Points.{points}
use Rattle.ct_partition.proofs.GroupLemmas.{AreGrouped}
use Rattle.ct_partition.proofs.groups.grouped.Given as goal

abbrev pub invariant-loop-i : goal.invariant-loop-i
invariant-loop-i l = AreGrouped (points l.labels l.starts l.children) l.blocks (take l.i-index l.waiting) l.known l.groups.items
