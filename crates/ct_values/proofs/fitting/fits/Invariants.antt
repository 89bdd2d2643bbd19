use Rattle.std.proofs.Common.{◌≡◌, ℕ, ◌<◌, Some, slice_get}
use Rattle.ct_values.specs.declared.node.Node.{Node}
use Rattle.ct_values.specs.Fitting.{FitsNode}
use Rattle.ct_values.proofs.fitting.fits.Given as goal

abbrev pub invariant-loop-n : goal.invariant-loop-n
invariant-loop-n l = (k : ℕ) (node : Node) → k < l.n → slice_get l.g k ≡ Some node → FitsNode l.sig l.g node
