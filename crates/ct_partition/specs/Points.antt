-- Labelled points with ordered children, and the lists that give them.
use Rattle.std.specs.Prelude.{◌≡◌, ℕ, ◌+◌, ◌<◌, ◌≤◌, List, length, slice_index, All}
use Rattle.std.specs.List.{slice_range}

-- so many points, numbered from 0, each with a label and with children in order, which are points again
pub record Points : Type 0 where
  pub count : ℕ
  pub label : ℕ → ℕ
  pub children : ℕ → List ℕ

-- the points with these labels, where the children of a point are those from its start up to the next start
abbrev pub points : List ℕ → List ℕ → List ℕ → Points
points labels starts children = record {
  count = length labels;
  label = λ i. slice_index labels i;
  children = λ i. slice_range children (slice_index starts i) (slice_index starts (i + 1));
}

-- the lists give points: there is one start more than points, no start is greater than the next, the last one is the
-- number of children, and each child is a point
pub record ArePoints (labels starts children : List ℕ) : Type 0 where
  pub one_more : length starts ≡ length labels + 1
  pub rising : (i : ℕ) → i < length labels → slice_index starts i ≤ slice_index starts (i + 1)
  pub last : slice_index starts (length labels) ≡ length children
  pub within : All (λ child. child < length labels) children
