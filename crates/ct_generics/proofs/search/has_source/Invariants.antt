use Rattle.std.proofs.Common.{ℕ, ◌<◌}
use Rattle.ct_generics.specs.Search.{IsSource}
use Rattle.ct_generics.proofs.search.has_source.Given as goal

abbrev pub invariant-loop-x : goal.invariant-loop-x
invariant-loop-x l = (k : ℕ) → k < l.x → IsSource l.graph l.marks l.y k → ⊥
