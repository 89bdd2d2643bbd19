use Rattle.std.proofs.Common.{◌≡◌, length}
use Rattle.ct_command.specs.Labels.{label_in}
use Rattle.ct_command.specs.Seen.{all_seen}
use Rattle.ct_command.proofs.labels.label_in.Given as goal

abbrev pub invariant-loop-left : goal.invariant-loop-left
invariant-loop-left l = label_in (all_seen l.attributes) ≡ label_in (all_seen l.left)

abbrev pub decreases-loop-left : goal.decreases-loop-left
decreases-loop-left l = length l.left
