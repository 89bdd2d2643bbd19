use Rattle.std.proofs.Common.{◌↔◌, length}
use Rattle.ct_step.specs.Logics.{IsSplit}
use Rattle.ct_step.proofs.logics.is_split.Given as goal

abbrev pub invariant-loop-part : goal.invariant-loop-part
invariant-loop-part l = IsSplit l.name ↔ IsSplit l.left

abbrev pub decreases-loop-part : goal.decreases-loop-part
decreases-loop-part l = length l.left
