use Rattle.std.proofs.Common.{◌≡◌, ℕ, ◌<◌, ◌⊎◌, slice_get, Some, None}
use Rattle.ct_congr.specs.declared.constructors.Shape.{Shape}
use Rattle.ct_congr.proofs.closing.verdict.Given as goal

abbrev pub invariant-loop-shape : goal.invariant-loop-shape
invariant-loop-shape l = (k : ℕ) (shape : Shape) → k < l.shape-index → slice_get l.shapes k ≡ Some shape → (shape.first ≡ None) ⊎ (shape.other ≡ None)
