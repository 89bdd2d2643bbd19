use Rattle.std.proofs.Common.{◌≡◌, ℕ, nat_lt}
use Rattle.ct_partition.specs.Sets.{has}
use Rattle.ct_partition.proofs.partition.numbers_below.Given as goal

abbrev pub invariant-loop-i : goal.invariant-loop-i
invariant-loop-i l = (j : ℕ) → has l.list.items j ≡ nat_lt j l.i
