use Rattle.std.proofs.Common.{◌≡◌, ◌<◌, ℕ, Some, slice_get}
use Rattle.ct_generics.specs.declared.nodes.ExprId.{ExprId}
use Rattle.ct_generics.specs.Lengths.{IsLongAt}
use Rattle.ct_generics.proofs.findings.has_long.Given as goal

abbrev pub invariant-loop-i : goal.invariant-loop-i
invariant-loop-i l = (k : ℕ) (id : ExprId) → k < l.i → slice_get l.ids k ≡ Some id → IsLongAt l.counts id → ⊥
