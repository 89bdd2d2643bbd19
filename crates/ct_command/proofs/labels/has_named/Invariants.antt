use Rattle.std.proofs.Common.{◌≡◌, length}
use Rattle.std.specs.List.{list_any}
use Rattle.ct_command.specs.Labels.{is_named}
use Rattle.ct_command.specs.Seen.{all_seen}
use Rattle.ct_command.proofs.labels.has_named.Given as goal

abbrev pub invariant-loop-left : goal.invariant-loop-left
invariant-loop-left l = list_any is_named (all_seen l.exprs) ≡ list_any is_named (all_seen l.left)

abbrev pub decreases-loop-left : goal.decreases-loop-left
decreases-loop-left l = length l.left
