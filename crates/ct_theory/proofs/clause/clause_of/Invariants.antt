use Rattle.std.proofs.Common.{◌≡◌, ◌*◌, length, take}
use Rattle.ct_theory.specs.Steps.{IsClauseOf, AreStamped}
use Rattle.ct_theory.proofs.clause.clause_of.Given as goal

abbrev pub invariant-loop-step : goal.invariant-loop-step
invariant-loop-step l = record {
  long : length l.stamps.items ≡ l.terms * 2;
  stamped : AreStamped l.stamps.items l.clause.items;
  is : IsClauseOf (take l.step-index l.steps) l.clause.items;
}
