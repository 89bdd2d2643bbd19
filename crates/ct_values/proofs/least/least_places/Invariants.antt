use Rattle.std.proofs.Common.{◌≤◌, length}
use Rattle.ct_values.specs.Least.{TellsLeast}
use Rattle.ct_values.proofs.least.least_places.Given as goal

abbrev pub invariant-places : goal.invariant-places
invariant-places l = (l.i ≤ length l.numbers) × TellsLeast l.numbers l.i l.table.items

abbrev pub decreases-places : goal.decreases-places
decreases-places l = l.i
