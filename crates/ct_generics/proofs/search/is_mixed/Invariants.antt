use Rattle.std.proofs.Common.{ℕ, ◌<◌}
use Rattle.ct_generics.specs.Search.{IsBack}
use Rattle.ct_generics.proofs.search.is_mixed.Given as goal

abbrev pub invariant-loop-y : goal.invariant-loop-y
invariant-loop-y l = (k : ℕ) → k < l.y → IsBack l.graph k → ⊥
