-- What contracts see of an equivalence: the classes as they are, and as they were before each union that stands.
use Rattle.std.specs.Prelude.{◌≡◌, ℕ, ◌∷◌, Bool, List, length, Option, Some, slice_get}
use Rattle.std.specs.List.{AllByRecursion}
use Rattle.ct_terms.specs.declared.ids.TermId.{TermId}
use Rattle.ct_equivalence.specs.declared.places.Place.{Place}
use Rattle.ct_equivalence.specs.Partition.{IsClass}

-- for each term the representative of its class; and for each representative a constructor term of its class, or that there
-- is none, the members of its class, and the terms that stand right above a member. A term that represents no class has what
-- it had when it last represented one
pub record Grouping : Type 0 where
  pub reps : List TermId
  pub cons : List (Option TermId)
  pub members : List (List TermId)
  pub uses : List (List TermId)

-- the classes now, and before each union that stands, the last union first; which terms are marked as lone; and the digests of
-- wide terms now, with the places at which each term stands in wide terms
pub record Groupings : Type 0 where
  pub now : Grouping
  pub past : List Grouping
  pub lone : List Bool
  pub digests : List ℕ
  pub places : List (List Place)

-- each representative is its own, and has the members of its class
pub record IsGrouping (g : Grouping) : Type 0 where
  pub cons_long : length g.cons ≡ length g.reps
  pub members_long : length g.members ≡ length g.reps
  pub uses_long : length g.uses ≡ length g.reps
  pub own : (x r : TermId) → slice_get g.reps x.0 ≡ Some r → slice_get g.reps r.0 ≡ Some r
  pub classes : (r : TermId) (row : List TermId) → slice_get g.reps r.0 ≡ Some r → slice_get g.members r.0 ≡ Some row → IsClass g.reps r row

-- that holds of the classes now and of those before each union
abbrev pub AreGroupings : Groupings → Type 0
AreGroupings gs = AllByRecursion IsGrouping (gs.now ∷ gs.past)
