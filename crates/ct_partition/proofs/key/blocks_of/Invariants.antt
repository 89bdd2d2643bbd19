use Rattle.std.proofs.Common.{◌≡◌, map, take}
use Rattle.ct_partition.specs.Partition.{block_at}
use Rattle.ct_partition.proofs.key.blocks_of.Given as goal

abbrev pub invariant-loop-i : goal.invariant-loop-i
invariant-loop-i l = l.list.items ≡ map (block_at l.blocks) (take l.i-index l.points)
