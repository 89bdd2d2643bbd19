-- The choices of a value for each of several variables, by their numbers.
use Rattle.std.specs.Prelude.{◌≡◌, ℕ, ◌+◌, ◌*◌, ◌/◌, ◌%◌, ◌<◌, ◌≤◌, Bool, true, List, [], ◌∷◌, length, All, Some, slice_get, if◌then◌else◌}
use Rattle.ct_sorts.specs.declared.ids.SortId.{SortId}
use Rattle.ct_sorts.specs.Declarations.{Declarations}
use Rattle.ct_formulas.specs.Choices.{choices_of}
use Rattle.ct_listing.specs.Closed.{ClosedValue}
use Rattle.ct_listing.specs.Listable.{IsListable}
use Rattle.ct_finite.specs.Counts.{most_values, AreCounts}
use Rattle.ct_finite.specs.Counting.{ways}
use Rattle.ct_finite.specs.Entries.{AreEntries}

-- variables of these listable sorts have few choices, of which this is the number of one
pub record IsChoice (d : Declarations) (counts : List ℕ) (sorts : List SortId) (k : ℕ) : Type 0 where
  pub counts_are : AreCounts d counts
  pub listable : All (IsListable d) sorts
  pub few : length (choices_of d sorts) ≤ most_values
  pub there : k < length (choices_of d sorts)

abbrev pub MayChoose : List ℕ → List SortId → ℕ → Type 0
MayChoose counts sorts k = (d : Declarations) × IsChoice d counts sorts k

-- the choice with this number has the values with these numbers in the lists of the sorts
abbrev pub IsChosen : Declarations → List SortId → ℕ → List ℕ → Type 0
IsChosen d sorts k numbers = (vs : List ClosedValue) × (slice_get (choices_of d sorts) k ≡ Some vs) × AreEntries d sorts numbers vs

-- two choices have the same values for the variables whose flags are set
abbrev pub AreLike : List Bool → List ClosedValue → List ClosedValue → Type 0
AreLike [] [] [] = Unit {0}
AreLike (b ∷ bs) (u ∷ us) (v ∷ vs) = (b ≡ true → u ≡ v) × AreLike bs us vs
AreLike _ _ _ = ⊥

-- the number of the choice that has the values of this one where flags are set, and else the first values, where each sort has so
-- many values
abbrev pub first_like : (SortId → ℕ) → List SortId → List Bool → ℕ → ℕ
first_like count [] flags k = 0
first_like count (s ∷ sorts) [] k = 0
first_like count (s ∷ sorts) (b ∷ flags) k = (if b then k / ways count sorts else 0) * ways count sorts + first_like count sorts flags (k % ways count sorts)
