use Rattle.std.proofs.Common.{◌-◌, length}
use Rattle.ct_sat.specs.Watching.{Settles}
use Rattle.ct_sat.proofs.propagate.settle.Given as goal

abbrev pub invariant-short : goal.invariant-short
invariant-short l = Settles l.clauses l.fn.trail l.trail l.short l.fn.progress l.progress

abbrev pub decreases-short : goal.decreases-short
decreases-short l = length l.short - l.progress.settled
