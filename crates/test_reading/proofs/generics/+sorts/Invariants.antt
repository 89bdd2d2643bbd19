use Rattle.std.proofs.Common.{◌*◌, ◌+◌}
use Rattle.test_reading.proofs.generics.+sorts.Given as goal

abbrev pub decreases-sort_expr : goal.decreases-sort_expr
decreases-sort_expr l = 2 * l.deep

abbrev pub decreases-applied : goal.decreases-applied
decreases-applied l = 2 * l.deep + 1
