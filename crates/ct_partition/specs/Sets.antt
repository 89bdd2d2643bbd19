-- Sets of points, as lists in which order and repetition count for nothing.
use Rattle.std.specs.Prelude.{◌≡◌, ℕ, ◌<◌, Bool, false, ◌||◌, List, [], ◌∷◌, nat_eq, slice_index_or}
use Rattle.ct_partition.specs.Points.{Points}
use Rattle.ct_partition.specs.Bisimilarity.{AgreeAlways}

-- the point is in the set
unfoldable pub has : List ℕ → ℕ → Bool
has [] i = false
has (x ∷ xs) i = nat_eq x i || has xs i

-- the set has both or neither of two points that agree at every depth
abbrev pub IsSaturated : Points → List ℕ → Type 0
IsSaturated p set = (i j : ℕ) → i < p.count → j < p.count → AgreeAlways p i j → has set i ≡ has set j

-- the row with this number, and no points past the last row
abbrev pub row_at : List (List ℕ) → ℕ → List ℕ
row_at rows n = slice_index_or rows n []
