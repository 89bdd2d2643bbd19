use Rattle.std.proofs.Common.{length}
use Rattle.ct_command.specs.Items.{each, name_of}
use Rattle.ct_command.specs.Seen.{all_seen, name_seen}
use Rattle.ct_command.proofs.EachLemmas.{Completes}
use Rattle.ct_command.proofs.forms.names.Given as goal

abbrev pub invariant-loop-left : goal.invariant-loop-left
invariant-loop-left l = Completes name_of name_seen (each name_of (all_seen l.exprs)) l.read.items (all_seen l.left)

abbrev pub decreases-loop-left : goal.decreases-loop-left
decreases-loop-left l = length l.left
