use Rattle.std.proofs.Common.{◌≡◌, ◌≤◌, ◌-◌, length}
use Rattle.ct_terms.specs.Clause.{Clause}
use Rattle.ct_sat.specs.Analysis.{Leads, Collects, IsAbove}
use Rattle.ct_sat.proofs.analysis.collect.Given as goal

abbrev pub invariant-loop-index : goal.invariant-loop-index
invariant-loop-index l = record {
  leads : (conflict : Clause) → Leads l.clauses l.trail.literals l.initial.marks.items l.initial.hints.items l.start l.initial.lits.items conflict → Leads l.clauses l.trail.literals l.marks.items l.hints.items l.index l.lits.items conflict;
  long : length l.marks.items ≡ length l.initial.marks.items;
  collects : Collects l.trail.literals l.above l.initial.lits.items l.lits.items;
  above : IsAbove l.index l.above l.start;
  index : l.index ≤ l.start;
}

abbrev pub decreases-loop-index : goal.decreases-loop-index
decreases-loop-index l = l.index - l.first
