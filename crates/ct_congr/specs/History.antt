-- How merges, the groupings of terms before each of them, and the signatures that were met grow together.
use Rattle.std.specs.Prelude.{◌≡◌, List, ◌∷◌, ◌++◌, length}
use Rattle.ct_terms.specs.Terms.{Terms}
use Rattle.ct_equivalence.specs.Grouping.{Grouping, Groupings}
use Rattle.ct_equivalence.specs.Over.{AreGroupingsOf}
use Rattle.ct_congr.specs.declared.merge.Merge.{Merge}
use Rattle.ct_congr.specs.Grown.{IsLater}
use Rattle.ct_congr.specs.Covered.{Keys, AreKeys}

-- so many merges more at the end, so many groupings more at the beginning, and those that were are as they were
pub record IsExtended (old new : Groupings) (merges later : List Merge) : Type 0 where
  pub more : List Merge
  pub merges_are : later ≡ merges ++ more
  pub groupings : List Grouping
  pub groupings_are : (new.now ∷ new.past) ≡ groupings ++ (old.now ∷ old.past)
  pub long : length groupings ≡ length more

-- classes of the terms of a table after more merges: all that stood before stands, and what was of one class still is
pub record IsFurther (terms : Terms) (old new : Groupings) (merges after : List Merge) (keys more_keys : Keys) : Type 0 where
  pub extended : IsExtended old new merges after
  pub later : IsLater old.now.reps new.now.reps merges after
  pub more : (added : Keys) × (more_keys ≡ keys ++ added)
  pub groupings : AreGroupingsOf terms new
  pub keyed : AreKeys new.now.reps more_keys
