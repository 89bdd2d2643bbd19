use Rattle.std.proofs.Common.{◌≡◌, false, length}
use Rattle.ct_command.specs.Labels.{are_attributes}
use Rattle.ct_command.specs.Seen.{all_seen}
use Rattle.ct_command.proofs.labels.are_attributes.Given as goal

abbrev pub invariant-loop-left : goal.invariant-loop-left
invariant-loop-left l = are_attributes false (all_seen l.exprs) ≡ are_attributes l.takes_value (all_seen l.left)

abbrev pub decreases-loop-left : goal.decreases-loop-left
decreases-loop-left l = length l.left
