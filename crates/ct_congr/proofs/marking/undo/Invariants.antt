use Rattle.std.proofs.Common.{◌≡◌, ◌≤◌, List, ◌∷◌, ◌++◌, length}
use Rattle.ct_terms.specs.Terms.{Terms}
use Rattle.ct_equivalence.specs.Grouping.{Grouping}
use Rattle.ct_equivalence.specs.Over.{AreGroupingsOf}
use Rattle.ct_congr.proofs.marking.undo.Given as goal

abbrev pub invariant-loop-parts : goal.invariant-loop-parts
invariant-loop-parts l = record {
  fits : l.unions ≤ length l.parts.past;
  gone : (gone : List Grouping) × ((l.initial.parts.now ∷ l.initial.parts.past) ≡ gone ++ (l.parts.now ∷ l.parts.past));
  of : (terms : Terms) → AreGroupingsOf terms l.initial.parts → AreGroupingsOf terms l.parts;
}

abbrev pub decreases-loop-parts : goal.decreases-loop-parts
decreases-loop-parts l = length l.parts.past
