-- Searches in which no decision stands, as lines are added.
use Rattle.std.proofs.Common.{◌≡◌, ◌*◌, ◌≤◌, [], length, sym, subst, ◌∙◌}
use Rattle.ct_sorts.specs.Declarations.{Declarations}
use Rattle.ct_card.specs.Sizes.{Table, AreSizes}
use Rattle.ct_terms.specs.Terms.{Terms, AreSorted}
use Rattle.ct_log.specs.Recorded.{Derived, AreJudges, IsDerivation}
use Rattle.ct_log.specs.Rooms.{Space}
use Rattle.ct_engine.specs.declared.course.Course.{Course}
use Rattle.ct_engine.specs.Progress.{IsUnderWay, IsOfOneTask}
use Rattle.ct_engine.specs.Opening.{IsBeforeDecisions, IsOpening}

-- a search of the same task in which no decision stands either
pub IsBeforeDecisions-then : (d : Declarations) (sizes : Table) (old new : Course) → IsBeforeDecisions d sizes old → IsUnderWay new → new.search.decided ≡ [] → IsOfOneTask old new → IsBeforeDecisions d sizes new
IsBeforeDecisions-then d sizes old new before under_way start same = record {
  under_way = under_way;
  start = start;
  declarations = same.declarations ∙ before.declarations;
  sized = before.sized;
}

-- and in the same room
pub IsOpening-then : (d : Declarations) (sizes : Table) (old new : Course) (room : Space) → IsOpening d sizes old room → IsUnderWay new → new.search.decided ≡ [] → IsOfOneTask old new → IsOpening d sizes new room
IsOpening-then d sizes old new room opening under_way start same = record {
  before = IsBeforeDecisions-then d sizes old new opening.before under_way start same;
  literals = subst (λ (ts : Terms). length ts * 2 ≤ room.literals) (sym same.terms) opening.literals;
  equations = opening.equations;
}

-- what lines are judged with
pub judges_of : (d : Declarations) (sizes : Table) (derived : Derived) → derived.declarations ≡ d → AreSizes d sizes → IsDerivation derived → AreJudges d sizes derived.rec.terms derived.asserts
judges_of d sizes derived same sized derivation = record {
  sized = sized;
  sorted = subst (λ (x : Declarations). AreSorted x derived.rec.terms) same derivation.judges.sorted;
  booleans = derivation.judges.booleans;
}
