use Rattle.std.proofs.Common.{◌+◌, ◌*◌}
use Rattle.ct_cases.proofs.sorts.+sorts.Given as goal

-- a sort comes after a name with its arguments that is nested as deep
abbrev pub decreases-nested : goal.decreases-nested
decreases-nested l = 2 * l.deep

abbrev pub decreases-applied : goal.decreases-applied
decreases-applied l = 2 * l.deep + 1
