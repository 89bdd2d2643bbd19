use Rattle.std.proofs.Common.{take}
use Rattle.ct_partition.proofs.BlockLemmas.{AreRenumbered}
use Rattle.ct_partition.proofs.splitting.renumber.Given as goal

abbrev pub invariant-loop-i : goal.invariant-loop-i
invariant-loop-i l = AreRenumbered l.initial.numbers.items l.numbers.items (take l.i-index l.points) l.number
