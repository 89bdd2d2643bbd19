use Rattle.std.proofs.Common.{◌-◌, ◌≤◌, length}
use Rattle.ct_sat.specs.Watching.{AreLinked, Attaches}
use Rattle.ct_sat.proofs.attach.attach_all.Given as goal

abbrev pub invariant-added : goal.invariant-added
invariant-added l = record {
  linked : AreLinked l.clauses l.trail.room l.watches.of_clauses.items l.watches.lists.items l.progress.linked;
  attaches : Attaches l.clauses l.fn.trail l.trail l.fn.watches.of_clauses.items l.watches.of_clauses.items l.fn.progress l.progress;
  head : l.progress.head ≤ length l.trail.literals;
}

abbrev pub decreases-added : goal.decreases-added
decreases-added l = length l.clauses - l.progress.linked
