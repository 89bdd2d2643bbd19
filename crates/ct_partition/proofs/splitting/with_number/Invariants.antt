use Rattle.std.proofs.Common.{◌≡◌, ℕ, ◌&&◌, take, nat_eq}
use Rattle.ct_partition.specs.Sets.{has}
use Rattle.ct_partition.specs.Partition.{block_at}
use Rattle.ct_partition.proofs.splitting.with_number.Given as goal

abbrev pub invariant-loop-i : goal.invariant-loop-i
invariant-loop-i l = (i : ℕ) → has l.stored i ≡ (has (take l.i-index l.points) i && nat_eq (block_at l.numbers i) l.number)
