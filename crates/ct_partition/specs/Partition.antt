-- Partitions of points, as the number of the block of each point.
use Rattle.std.specs.Prelude.{◌≡◌, ℕ, ◌<◌, ◌≤◌, List, map, slice_index, IsTrue, Bool}
use Rattle.ct_partition.specs.Points.{Points}
use Rattle.ct_partition.specs.Bisimilarity.{AgreeAlways, IsBisimulation}

-- the number of the block of this point
abbrev pub block_at : List ℕ → ℕ → ℕ
block_at blocks i = slice_index blocks i

-- points of one block have one label and as many children, which are in the same blocks one for one
pub record IsStable (p : Points) (blocks : List ℕ) : Type 0 where
  pub labels : (i j : ℕ) → i < p.count → j < p.count → block_at blocks i ≡ block_at blocks j → p.label i ≡ p.label j
  pub children : (i j : ℕ) → i < p.count → j < p.count → block_at blocks i ≡ block_at blocks j → map (block_at blocks) (p.children i) ≡ map (block_at blocks) (p.children j)

-- points that cannot be told apart are in one block: those that agree at every depth, and those that a bisimulation relates
pub record IsCoarsest (p : Points) (blocks : List ℕ) : Type 0 where
  pub agreeing : (i j : ℕ) → i < p.count → j < p.count → AgreeAlways p i j → block_at blocks i ≡ block_at blocks j
  pub related : (relates : ℕ → ℕ → Bool) → IsBisimulation p relates → (i j : ℕ) → i < p.count → j < p.count → IsTrue (relates i j) → block_at blocks i ≡ block_at blocks j

-- each block has the number of its least point, which is in it
pub record AreLeastPoints (p : Points) (blocks : List ℕ) : Type 0 where
  pub least : (i : ℕ) → i < p.count → block_at blocks i ≤ i
  pub member : (i : ℕ) → i < p.count → block_at blocks (block_at blocks i) ≡ block_at blocks i
