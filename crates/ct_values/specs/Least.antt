-- The least place that has the number of a place, in a list of numbers.
use Rattle.std.specs.Prelude.{◌≡◌, ℕ, ◌-◌, ◌<◌, ◌≤◌, List, length, slice_index}
use Rattle.ct_values.specs.Partition.{class_at}

-- among the places from the start on this one is the least that has the number of the place i
pub record IsLeastFrom (numbers : List ℕ) (start i place : ℕ) : Type 0 where
  pub late : start ≤ place
  pub same : class_at numbers place ≡ class_at numbers i
  pub least : (j : ℕ) → start ≤ j → j < length numbers → class_at numbers j ≡ class_at numbers i → place ≤ j

-- for each place the least one that has its number
pub record AreLeast (numbers places : List ℕ) : Type 0 where
  pub long : length places ≡ length numbers
  pub named : (i : ℕ) → i < length numbers → IsLeastFrom numbers 0 i (slice_index places i)

-- no number of the list is 0
abbrev pub ArePositive : List ℕ → Type 0
ArePositive numbers = (i : ℕ) → i < length numbers → 0 < class_at numbers i

-- where the number is n + 1, the table has at n the least place from the start on
pub record TellsLeast (numbers : List ℕ) (start : ℕ) (table : List ℕ) : Type 0 where
  pub within : (i : ℕ) → i < length numbers → class_at numbers i ≤ length table
  pub told : (i : ℕ) → start ≤ i → i < length numbers → IsLeastFrom numbers start i (slice_index table (class_at numbers i - 1))
