use Rattle.std.proofs.Common.{◌≡◌, All, length}
use Rattle.ct_partition.proofs.partition.zeros.Given as goal

abbrev pub invariant-loop : goal.invariant-loop
invariant-loop l = record { long : length l.list.items ≡ l.counter; zeros : All (λ n. n ≡ 0) l.list.items }
