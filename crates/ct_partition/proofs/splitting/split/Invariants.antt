use Rattle.std.proofs.Common.{vec_len}
use Rattle.ct_partition.proofs.BlockLemmas.{AreSplit}
use Rattle.ct_partition.proofs.splitting.split.Given as goal

abbrev pub invariant-loop-group : goal.invariant-loop-group
invariant-loop-group l = AreSplit l.fn.blocks.numbers.items l.fn.blocks.rows.items l.fn.groups.items l.blocks.numbers.items l.blocks.rows.items l.blocks.sizes.items l.groups.items l.changed.items

abbrev pub decreases-loop-group : goal.decreases-loop-group
decreases-loop-group l = vec_len l.groups
