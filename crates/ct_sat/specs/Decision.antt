-- What a decision does.
use Rattle.std.specs.Prelude.{◌≡◌, ◌+◌, ◌<◌, false, [], ◌∷◌, ◌++◌, length, take, Some, slice_get, Contains}
use Rattle.ct_terms.specs.declared.ids.TermId.{TermId}
use Rattle.ct_terms.specs.declared.ids.Lit.{Lit}
use Rattle.ct_sat.specs.declared.decided.Decided.{Decided}
use Rattle.ct_sat.specs.declared.decision.Decision.{Decision}
use Rattle.ct_sat.specs.declared.decision.Decision.TheVariants.{Took, All, Spent}
use Rattle.ct_sat.specs.Up.{IsLowest, negative_of}
use Rattle.ct_sat.specs.State.{SearchState}

-- the literal is decided: it stands at the end of the trail, and one decision more is counted
abbrev pub with_decision : SearchState → Lit → SearchState
with_decision search l = record search {
  trail = search.trail ++ l ∷ [];
  decided = search.decided ++ record { literal = l; index = length search.trail } ∷ [];
  count = search.count + 1;
  propagated = false;
}

-- the lowest variable without a value is made false
pub record Takes (old new : SearchState) (l : Lit) : Type 0 where
  pub variable : TermId
  pub negative : l ≡ negative_of variable
  pub lowest : IsLowest old.variables (Contains old.trail) variable
  pub left : old.count < old.budget
  pub step : new ≡ with_decision old l

-- what each answer leaves
abbrev pub Leaves : SearchState → SearchState → Decision → Type 0
Leaves old new (Took l) = Takes old new l
Leaves old new All = new ≡ old
Leaves old new Spent = new ≡ old

-- all decisions are taken back, and with them the literals from the first one on
pub record Restarts (old new : SearchState) : Type 0 where
  pub first : Decided
  pub stands : slice_get old.decided 0 ≡ Some first
  pub after : new ≡ record old { trail = take first.index old.trail; decided = []; propagated = false }
