use Rattle.std.proofs.Common.{◌≡◌, ◌++◌, length}
use Rattle.ct_stack.specs.Assuming.{assumptions_seen}
use Rattle.ct_step.specs.Cores.{members_at}
use Rattle.ct_step.specs.Done.{state_of, assumed_in}
use Rattle.ct_step.proofs.cores.members_at.Given as goal

abbrev pub invariant-loop-left : goal.invariant-loop-left
invariant-loop-left l =
    l.texts.items ++ members_at l.members (state_of l.state) (assumptions_seen (assumed_in l.state.kept)) l.left ≡ members_at l.members (state_of l.state) (assumptions_seen (assumed_in l.state.kept)) l.places

abbrev pub decreases-loop-left : goal.decreases-loop-left
decreases-loop-left l = length l.left
