use Rattle.std.proofs.Common.{◌≡◌, [], length, All}
use Rattle.ct_equivalence.proofs.parents.empty_rows.Given as goal

abbrev pub invariant-loop : goal.invariant-loop
invariant-loop l = record { long : length l.rows ≡ l.counter; empty : All (λ row. row ≡ []) l.rows }
