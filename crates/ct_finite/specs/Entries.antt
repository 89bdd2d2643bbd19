-- The entries of the list of a sort by their numbers.
use Rattle.std.specs.Prelude.{◌≡◌, ℕ, suc, ◌+◌, ◌/◌, ◌%◌, List, [], ◌∷◌, Some, option_map, unwrap_or, slice_get}
use Rattle.ct_sorts.specs.declared.ids.CtorId.{CtorId}
use Rattle.ct_sorts.specs.declared.ids.SortId.{SortId}
use Rattle.ct_sorts.specs.Declarations.{Declarations}
use Rattle.ct_listing.specs.Closed.{ClosedValue, ClosedValues, build, no_closed, with_closed, closed_list, closed_of}
use Rattle.ct_listing.specs.Listable.{field_sorts}
use Rattle.ct_listing.specs.Listing.{listed}
use Rattle.ct_finite.specs.Counting.{ways}

-- the values are those with these numbers in the lists of these sorts, one for one
abbrev pub AreEntries : Declarations → List SortId → List ℕ → List ClosedValue → Type 0
AreEntries d [] [] [] = Unit {0}
AreEntries d (s ∷ sorts) (k ∷ numbers) (v ∷ vs) = (slice_get (listed d s) k ≡ Some v) × AreEntries d sorts numbers vs
AreEntries d _ _ _ = ⊥

-- the value with this number in the list of the sort is built by this constructor, over the values with these numbers in the
-- lists of its fields' sorts
abbrev pub IsBuiltOf : Declarations → SortId → ℕ → CtorId → List ℕ → Type 0
IsBuiltOf d s k c numbers =
    (vs : List ClosedValue) × (slice_get (listed d s) k ≡ Some (build c (closed_of vs))) × AreEntries d (field_sorts d c) numbers vs

-- a number as one digit a field, the first the greatest, where each sort has so many values
abbrev pub digits : (SortId → ℕ) → List SortId → ℕ → List ℕ
digits count [] k = []
digits count (s ∷ sorts) k = k / ways count sorts ∷ digits count sorts (k % ways count sorts)

unfoldable mutual
  -- how many constructors the value has
  pub weight : ClosedValue → ℕ
  weight (build c vs) = suc (weight_under vs)

  pub weight_under : ClosedValues → ℕ
  weight_under no_closed = 0
  weight_under (with_closed v vs) = weight v + weight_under vs

-- what stands under a closed value
abbrev pub under : ClosedValue → List ClosedValue
under (build c vs) = closed_list vs

-- what stands under the value with this number in the list of the sort, and how many constructors the value has
abbrev pub under_at : Declarations → SortId → ℕ → List ClosedValue
under_at d s k = unwrap_or (option_map under (slice_get (listed d s) k)) []

abbrev pub weight_at : Declarations → SortId → ℕ → ℕ
weight_at d s k = unwrap_or (option_map weight (slice_get (listed d s) k)) 0
