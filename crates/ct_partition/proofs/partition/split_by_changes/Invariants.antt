use Rattle.ct_partition.specs.Points.{points}
use Rattle.ct_partition.proofs.WaitingLemmas.{IsUnderWay}
use Rattle.ct_partition.proofs.partition.split_by_changes.Given as goal

abbrev pub invariant-loop-round : goal.invariant-loop-round
invariant-loop-round l = IsUnderWay (points l.labels l.starts l.children) l.round l.blocks.numbers.items l.blocks.rows.items l.blocks.sizes.items l.stamps.items l.waiting.items
