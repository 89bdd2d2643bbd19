use Rattle.std.proofs.Common.{length, map}
use Rattle.ct_sorts.specs.Written.{AreBlockParametersBelow}
use Rattle.ct_command.specs.Seen.{head_seen, body_seen}
use Rattle.ct_stack.proofs.BlockLemmas.{AreDeclared}
use Rattle.ct_stack.proofs.block.block_of.Given as goal

abbrev pub invariant-loop-heads_left : goal.invariant-loop-heads_left
invariant-loop-heads_left l = AreDeclared (map head_seen l.heads) (map body_seen l.bodies) l.decls.items (map head_seen l.heads_left) (map body_seen l.bodies_left) × AreBlockParametersBelow l.decls.items

abbrev pub decreases-loop-heads_left : goal.decreases-loop-heads_left
decreases-loop-heads_left l = length l.heads_left
