use Rattle.std.proofs.Common.{◌≡◌, ◌+◌, ◌≤◌, length}
use Rattle.ct_sat.specs.Analysis.{GoesDown, HasNoMark}
use Rattle.ct_sat.proofs.analysis.walk.Given as goal

abbrev pub invariant-loop-lowest : goal.invariant-loop-lowest
invariant-loop-lowest l = record {
  down : GoesDown l.clauses l.trail.literals l.initial.marks.items l.initial.hints.items l.bound l.marks.items l.hints.items l.index;
  long : length l.marks.items ≡ length l.initial.marks.items;
  from : l.start ≤ l.lowest;
  index : l.lowest + 1 ≤ l.index;
  fits : l.index ≤ l.bound;
  unmarked : HasNoMark l.marks.items l.start l.lowest;
}

abbrev pub decreases-loop-lowest : goal.decreases-loop-lowest
decreases-loop-lowest l = l.index
