use Rattle.std.proofs.Common.{◌*◌, ◌+◌}
use Rattle.test_reading.proofs.adding.+shown.Given as goal

abbrev pub decreases-show_sort : goal.decreases-show_sort
decreases-show_sort l = 2 * l.deep

abbrev pub decreases-show_applied : goal.decreases-show_applied
decreases-show_applied l = 2 * l.deep + 1
