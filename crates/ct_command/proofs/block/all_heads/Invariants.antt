use Rattle.std.proofs.Common.{length}
use Rattle.ct_command.specs.Items.{each}
use Rattle.ct_command.specs.Forms.{sort_head}
use Rattle.ct_command.specs.Seen.{all_seen, head_seen}
use Rattle.ct_command.proofs.EachLemmas.{Completes}
use Rattle.ct_command.proofs.block.all_heads.Given as goal

abbrev pub invariant-loop-left : goal.invariant-loop-left
invariant-loop-left l = Completes sort_head head_seen (each sort_head (all_seen l.exprs)) l.read.items (all_seen l.left)

abbrev pub decreases-loop-left : goal.decreases-loop-left
decreases-loop-left l = length l.left
