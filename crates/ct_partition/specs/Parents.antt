-- The points that have a given point as a child.
use Rattle.std.specs.Prelude.{◌≡◌, ℕ, Bool, ◌&&◌, List, length, nat_lt}
use Rattle.std.specs.List.{list_any}
use Rattle.ct_partition.specs.Points.{Points}
use Rattle.ct_partition.specs.Sets.{has, row_at}

-- the row of each point has the points of which it is a child
pub record AreParents (p : Points) (rows : List (List ℕ)) : Type 0 where
  pub long : length rows ≡ p.count
  pub parents : (child i : ℕ) → has (row_at rows child) i ≡ (nat_lt i p.count && has (p.children i) child)

-- some point of the set has this one in its row
abbrev pub in_row_of : List (List ℕ) → List ℕ → ℕ → Bool
in_row_of rows set i = list_any (λ x. has (row_at rows x) i) set
