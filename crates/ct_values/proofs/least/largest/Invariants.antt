use Rattle.std.proofs.Common.{ℕ, ◌<◌, ◌≤◌}
use Rattle.ct_values.specs.Partition.{class_at}
use Rattle.ct_values.proofs.least.largest.Given as goal

abbrev pub invariant-loop-i : goal.invariant-loop-i
invariant-loop-i l = (i : ℕ) → i < l.i → class_at l.numbers i ≤ l.largest
