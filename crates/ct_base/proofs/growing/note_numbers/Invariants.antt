use Rattle.std.proofs.Common.{◌-◌, length}
use Rattle.ct_base.proofs.growing.note_numbers.Given as goal

abbrev pub decreases-loop-list : goal.decreases-loop-list
decreases-loop-list l = l.count - length l.list.items
