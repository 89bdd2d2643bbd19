use Rattle.std.proofs.Common.{◌≡◌, ℕ, ◌≤◌, length, Some, slice_get}
use Rattle.ct_sat.specs.declared.clause.StepClause.{StepClause}
use Rattle.ct_sat.proofs.search.find.Given as goal

abbrev pub invariant-clauses : goal.invariant-clauses
invariant-clauses l = record {
  within : l.index ≤ length l.clauses;
  none : (j : ℕ) (c : StepClause) → l.index ≤ j → slice_get l.clauses j ≡ Some c → c.step ≡ l.step → ⊥;
}

abbrev pub decreases-clauses : goal.decreases-clauses
decreases-clauses l = l.index
