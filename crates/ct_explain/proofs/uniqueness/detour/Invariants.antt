use Rattle.std.proofs.Common.{◌≡◌, ◌<◌, ℕ, List, Some, length, take, slice_get}
use Rattle.ct_rules.specs.declared.equation.Equation.{Equation}
use Rattle.ct_congr.specs.declared.merge.Merge.{Merge}
use Rattle.ct_congr.specs.Merges.{AreConnected}
use Rattle.ct_explain.specs.Trees.{IsForestOf}
use Rattle.ct_explain.proofs.uniqueness.detour.Given as goal

abbrev pub invariant-loop-k : goal.invariant-loop-k
invariant-loop-k l = (i : ℕ) (f : Equation) → i < l.k → slice_get l.equations i ≡ Some f → (merges : List Merge) → IsForestOf merges l.forest.links
    → l.fn.x.0 < length l.forest.links → f.right.0 < length l.forest.links → AreConnected (take l.bound merges) l.fn.x f.left → AreConnected (take l.bound merges) f.right l.fn.y → ⊥
