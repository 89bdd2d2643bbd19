-- Rows of numbers one after the other, as the lists of a directed graph have them.
use Rattle.std.specs.Prelude.{◌≡◌, ℕ, ◌+◌, ◌<◌, ◌≤◌, List, length, Some, slice_get, slice_index}
use Rattle.std.specs.List.{slice_range}

-- rows one after the other, so many, each as the relation wants it, of numbers below a bound
pub record AreRows (bound : ℕ) (R : ℕ → List ℕ → Type 0) (count : ℕ) (starts kids : List ℕ) : Type 0 where
  pub long : length starts ≡ count + 1
  pub last : slice_index starts count ≡ length kids
  pub rising : (i : ℕ) → i < count → slice_index starts i ≤ slice_index starts (i + 1)
  pub below : (i : ℕ) → i < count + 1 → slice_index starts i ≤ length kids
  pub within : (place kid : ℕ) → slice_get kids place ≡ Some kid → kid < bound
  pub rows : (i : ℕ) → i < count → R i (slice_range kids (slice_index starts i) (slice_index starts (i + 1)))
