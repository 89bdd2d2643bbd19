use Rattle.std.proofs.Common.{◌≡◌, ◌++◌, length}
use Rattle.ct_model.specs.Listed.{spaced}
use Rattle.ct_step.proofs.cores.put_spaced.Given as goal

abbrev pub invariant-loop-left : goal.invariant-loop-left
invariant-loop-left l = l.out.items ++ spaced l.left ≡ l.fn.out.items ++ spaced l.texts

abbrev pub decreases-loop-left : goal.decreases-loop-left
decreases-loop-left l = length l.left
