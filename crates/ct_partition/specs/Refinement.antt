-- One round of refinement, over the keys of the points.
use Rattle.std.specs.Prelude.{◌≡◌, ℕ, ◌<◌, ◌≤◌, List, length, map}
use Rattle.ct_partition.specs.declared.key.Key.{Key}
use Rattle.ct_partition.specs.Points.{Points}
use Rattle.ct_partition.specs.Bisimilarity.{AgreeAlways}
use Rattle.ct_partition.specs.Partition.{block_at}

-- what a round compares of a point: its label, its block, and the blocks of its children
abbrev pub key_of : Points → List ℕ → ℕ → Key
key_of p blocks i = record {
  label = p.label i;
  block = block_at blocks i;
  children = map (block_at blocks) (p.children i);
}

-- points that agree at every depth are in one block
pub record KeepsTogether (p : Points) (blocks : List ℕ) : Type 0 where
  pub long : length blocks ≡ p.count
  pub together : (i j : ℕ) → i < p.count → j < p.count → AgreeAlways p i j → block_at blocks i ≡ block_at blocks j

-- besides, no point comes before the point that its block is named for
pub record IsPartition (p : Points) (blocks : List ℕ) : Type 0 where
  pub keeps : KeepsTogether p blocks
  pub early : (i : ℕ) → block_at blocks i ≤ i

-- the new blocks are those of equal keys over the old ones, each named for a point of it that is no later
pub record IsRefined (p : Points) (old new : List ℕ) : Type 0 where
  pub long : length new ≡ length old
  pub early : (i : ℕ) → block_at new i ≤ i
  pub alike : (i : ℕ) → i < length old → key_of p old (block_at new i) ≡ key_of p old i
  pub together : (i j : ℕ) → i < length old → j < length old → key_of p old i ≡ key_of p old j → block_at new i ≡ block_at new j

-- a round changes nothing
abbrev pub IsSteady : Points → List ℕ → Type 0
IsSteady p blocks = IsRefined p blocks blocks
