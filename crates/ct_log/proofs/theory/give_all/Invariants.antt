use Rattle.std.proofs.Common.{◌≡◌, List, take, vec_len, vec_capacity}
use Rattle.ct_terms.specs.Clause.{Clause, opposites}
use Rattle.ct_rules.specs.declared.equation.Equation.{Equation}
use Rattle.ct_log.specs.Equations.{GiveAll}
use Rattle.ct_log.specs.Marks.{AreMarked}
use Rattle.ct_log.proofs.theory.give_all.Given as goal

abbrev pub invariant-loop-step : goal.invariant-loop-step
invariant-loop-step l = record {
  gives : (clause : Clause) → AreMarked l.marks (opposites clause)
      → GiveAll l.sig l.table clause (take l.step-index l.steps) l.given.items
      × ((all : List Equation) → GiveAll l.sig l.table clause l.steps all → take l.step-index all ≡ l.given.items);
  long : vec_len l.given ≡ l.step-index;
  room : vec_capacity l.given ≡ vec_capacity l.fn.given;
}
