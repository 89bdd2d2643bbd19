use Rattle.std.proofs.Common.{◌≡◌}
use Rattle.ct_stack.specs.Levels.{popped_by}
use Rattle.ct_stack.proofs.stack.AssertionStack.leave.Given as goal

abbrev pub invariant-loop-left : goal.invariant-loop-left
invariant-loop-left l = popped_by l.global l.left l.self ≡ popped_by l.global l.n l.initial.self

abbrev pub decreases-loop-left : goal.decreases-loop-left
decreases-loop-left l = l.left
