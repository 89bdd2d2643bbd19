use Rattle.std.proofs.Common.{◌-◌, length}
use Rattle.ct_sat.specs.Watching.{AreLinked, WorksThrough}
use Rattle.ct_sat.proofs.propagate.work_through.Given as goal

abbrev pub invariant-literals : goal.invariant-literals
invariant-literals l = record {
  works : WorksThrough l.clauses l.fn.trail l.trail l.fn.watches.of_clauses.items l.watches.of_clauses.items l.fn.progress l.progress;
  linked : AreLinked l.clauses l.trail.room l.watches.of_clauses.items l.watches.lists.items (length l.clauses);
}

abbrev pub decreases-literals : goal.decreases-literals
decreases-literals l = l.trail.room - l.progress.head
