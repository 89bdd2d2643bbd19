use Rattle.std.proofs.Common.{◌≡◌, ◌+◌, map, drop, length}
use Rattle.ct_formulas.specs.Formula.{bind}
use Rattle.ct_names.specs.Bounds.{variable_of}
use Rattle.ct_names.proofs.stack.Variables.enter.Given as goal

abbrev pub invariant-loop-left : goal.invariant-loop-left
invariant-loop-left l = (l.entered + length l.left ≡ length l.inner) × (bind (map variable_of l.left) l.self ≡ bind (map variable_of l.inner) l.initial.self) × (drop l.entered l.self ≡ l.initial.self)

abbrev pub decreases-loop-left : goal.decreases-loop-left
decreases-loop-left l = length l.left
