use Rattle.std.proofs.Common.{◌≡◌, length, map}
use Rattle.ct_command.specs.Seen.{head_seen, body_seen}
use Rattle.ct_stack.specs.Elaborations.{are_counted}
use Rattle.ct_stack.proofs.block.are_counted.Given as goal

abbrev pub invariant-loop-heads_left : goal.invariant-loop-heads_left
invariant-loop-heads_left l = are_counted (map head_seen l.heads) (map body_seen l.bodies) ≡ are_counted (map head_seen l.heads_left) (map body_seen l.bodies_left)

abbrev pub decreases-loop-heads_left : goal.decreases-loop-heads_left
decreases-loop-heads_left l = length l.heads_left
