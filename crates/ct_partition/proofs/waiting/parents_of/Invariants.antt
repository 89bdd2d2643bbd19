use Rattle.std.proofs.Common.{take}
use Rattle.ct_partition.proofs.WaitingLemmas.{AreWaiting}
use Rattle.ct_partition.proofs.waiting.parents_of.Given as goal

abbrev pub invariant-loop-i : goal.invariant-loop-i
invariant-loop-i l = AreWaiting l.parents (take l.i-index l.changed) l.stamp l.initial.stamps.items l.stamps.items l.waiting.items
