-- How classes change while merges are added, and what adding a list of merges needs.
use Rattle.std.specs.Prelude.{◌≡◌, ℕ, ◌<◌, ◌≤◌, List, ◌++◌, length, Option, Some, None, slice_get}
use Rattle.ct_terms.specs.declared.ids.TermId.{TermId}
use Rattle.ct_congr.specs.declared.merge.Merge.{Merge}
use Rattle.ct_congr.specs.Partition.{InOneClass}
use Rattle.ct_congr.specs.Sound.{roots}

-- there are more merges at the end, and what was of one class still is
pub record IsLater (old new : List TermId) (merges later : List Merge) : Type 0 where
  pub long : length new ≡ length old
  pub keeps : (x y : TermId) → InOneClass old x y → InOneClass new x y
  pub no_more : roots new ≤ roots old
  pub more : List Merge
  pub grown : later ≡ merges ++ more

-- the sides of the merges are terms below the number
abbrev pub AreInside : ℕ → List Merge → Type 0
AreInside n found = (k : ℕ) (m : Merge) → slice_get found k ≡ Some m → (m.left.0 < n) × (m.right.0 < n)

-- no merge has sides of one class
abbrev pub AreApart : List TermId → List Merge → Type 0
AreApart reps found = (k : ℕ) (m : Merge) → slice_get found k ≡ Some m → InOneClass reps m.left m.right → ⊥

-- what stood at the first stays, and where nothing did it is what stands at the second
pub record AreConsJoined (old new : List (Option TermId)) (winner loser : TermId) : Type 0 where
  pub others : (k : ℕ) → (k ≡ winner.0 → ⊥) → slice_get new k ≡ slice_get old k
  pub stays : (c : TermId) → slice_get old winner.0 ≡ Some (Some c) → slice_get new winner.0 ≡ Some (Some c)
  pub comes : slice_get old winner.0 ≡ Some None → slice_get new winner.0 ≡ slice_get old loser.0
