-- The blocks while they are split: the number of each point's block, and for each number a row of points and a size.
use Rattle.std.specs.Prelude.{◌≡◌, ℕ, ◌<◌, List, length, All}
use Rattle.ct_partition.specs.Points.{Points}
use Rattle.ct_partition.specs.Sets.{IsSaturated}
use Rattle.ct_partition.specs.Refinement.{KeepsTogether}

-- each block has a row and a size, and the rows hold points
pub record AreBlocks (numbers : List ℕ) (rows : List (List ℕ)) (sizes : List ℕ) : Type 0 where
  pub below : All (λ number. number < length rows) numbers
  pub sized : length sizes ≡ length rows
  pub within : All (λ row. All (λ i. i < length numbers) row) rows

-- points that agree at every depth are in one block, and together in each row
pub record KeepAlike (p : Points) (numbers : List ℕ) (rows : List (List ℕ)) : Type 0 where
  pub keeps : KeepsTogether p numbers
  pub saturated : All (λ row. IsSaturated p row) rows
