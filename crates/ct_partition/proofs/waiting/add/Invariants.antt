use Rattle.std.proofs.Common.{take}
use Rattle.ct_partition.proofs.WaitingLemmas.{AreStamped}
use Rattle.ct_partition.proofs.waiting.add.Given as goal

abbrev pub invariant-loop-i : goal.invariant-loop-i
invariant-loop-i l = AreStamped l.initial.stamps.items l.initial.waiting.items (take l.i-index l.points) l.stamp l.stamps.items l.waiting.items
