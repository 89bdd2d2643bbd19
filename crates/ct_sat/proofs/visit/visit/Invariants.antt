use Rattle.std.proofs.Common.{ℕ, List, length, MatchOption}
use Rattle.ct_sat.specs.declared.progress.Saved.{Saved}
use Rattle.ct_sat.specs.Status.{Propagated, IsFalseAt}
use Rattle.ct_sat.specs.Watching.{AreHeld, KeepsShort}
use Rattle.ct_sat.proofs.VisitLemmas.{IsVisiting}
use Rattle.ct_sat.proofs.visit.visit.Given as goal

abbrev pub invariant-listed : goal.invariant-listed
invariant-listed l = record {
  propagated : Propagated l.clauses l.fn.trail l.trail;
  short : KeepsShort l.fn.watches.of_clauses.items l.watches.of_clauses.items;
  held : (saved : List Saved) (low : ℕ) → AreHeld l.fn.watches.of_clauses.items (length l.clauses) l.fn.trail.literals saved l.fn.trail.decided low l.index → AreHeld l.watches.of_clauses.items (length l.clauses) l.trail.literals saved l.trail.decided low l.index;
  visiting : IsVisiting l.clauses l.trail.room l.watches.of_clauses.items l.watches.lists.items l.gone l.trail.literals l.conflict l.rest.first l.rest.count;
  outcome : MatchOption l.conflict (Unit {0}) (IsFalseAt l.clauses l.trail.literals);
}

abbrev pub decreases-listed : goal.decreases-listed
decreases-listed l = l.rest.count
