use Rattle.std.proofs.Common.{◌≡◌, ◌≤◌, length}
use Rattle.ct_sat.specs.Analysis.{GoesDown}
use Rattle.ct_sat.proofs.analysis.explain.Given as goal

abbrev pub invariant-loop-index : goal.invariant-loop-index
invariant-loop-index l = record {
  down : GoesDown l.clauses l.trail.literals l.initial.marks.items l.initial.hints.items l.end l.marks.items l.hints.items l.index;
  long : length l.marks.items ≡ length l.trail.literals;
  index : l.index ≤ l.end;
}

abbrev pub decreases-loop-index : goal.decreases-loop-index
decreases-loop-index l = l.index
