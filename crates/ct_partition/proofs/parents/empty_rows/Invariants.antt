use Rattle.std.proofs.Common.{◌≡◌, ℕ, [], length}
use Rattle.ct_partition.specs.Sets.{row_at}
use Rattle.ct_partition.proofs.parents.empty_rows.Given as goal

abbrev pub invariant-loop : goal.invariant-loop
invariant-loop l = record { long : length l.rows.items ≡ l.counter; empty : (n : ℕ) → row_at l.rows.items n ≡ [] }
