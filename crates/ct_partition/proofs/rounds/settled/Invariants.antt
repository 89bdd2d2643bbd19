use Rattle.std.proofs.Common.{◌-◌, ◌*◌, length, sum}
use Rattle.ct_partition.specs.Points.{points}
use Rattle.ct_partition.specs.Refinement.{IsPartition}
use Rattle.ct_partition.proofs.rounds.settled.Given as goal

abbrev pub invariant-loop-blocks : goal.invariant-loop-blocks
invariant-loop-blocks l = IsPartition (points l.labels l.starts l.children) l.blocks.items

abbrev pub decreases-loop-blocks : goal.decreases-loop-blocks
decreases-loop-blocks l = length l.labels * length l.labels - sum l.blocks.items
