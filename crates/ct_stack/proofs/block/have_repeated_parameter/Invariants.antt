use Rattle.std.proofs.Common.{◌≡◌, length, map}
use Rattle.ct_command.specs.Seen.{body_seen}
use Rattle.ct_stack.specs.Elaborations.{have_repeated_parameter}
use Rattle.ct_stack.proofs.block.have_repeated_parameter.Given as goal

abbrev pub invariant-loop-left : goal.invariant-loop-left
invariant-loop-left l = have_repeated_parameter (map body_seen l.bodies) ≡ have_repeated_parameter (map body_seen l.left)

abbrev pub decreases-loop-left : goal.decreases-loop-left
decreases-loop-left l = length l.left
