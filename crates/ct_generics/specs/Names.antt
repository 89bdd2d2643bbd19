-- Names that are declared.
use Rattle.std.specs.Prelude.{◌≡◌, ℕ, List, Some, slice_get}

-- the name is one of these
abbrev pub IsListed : List (List ℕ) → List ℕ → Type 0
IsListed names name = (i : ℕ) × (slice_get names i ≡ Some name)

-- no name stands twice
abbrev pub AreDistinct : List (List ℕ) → Type 0
AreDistinct names = (i j : ℕ) (name : List ℕ) → slice_get names i ≡ Some name → slice_get names j ≡ Some name → i ≡ j
