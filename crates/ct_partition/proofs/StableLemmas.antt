-- What a partition is that keeps together what agrees, and that a round does not change.
use Rattle.std.proofs.Common.{◌≡◌, ℕ, ◌<◌, ◌≤◌, ◌↔◌, List, nat_eq, ap, arith}
use Rattle.std.proofs.lemmas.Bool.{eqb-true, eq-eqb}
use Rattle.ct_partition.specs.Points.{Points}
use Rattle.ct_partition.specs.Bisimilarity.{AgreeAlways, IsBisimulation, AreBisimilar}
use Rattle.ct_partition.specs.Partition.{block_at, IsStable, IsCoarsest, AreLeastPoints}
use Rattle.ct_partition.specs.Refinement.{IsPartition, IsSteady}
use Rattle.ct_partition.proofs.AgreeLemmas.{IsClosed, AgreeAlways-related}
use Rattle.ct_partition.proofs.RefineLemmas.{keys_of_block, pointwise-blocks, AgreeAlways-steady}

-- it is stable
pub IsStable-steady : (p : Points) (blocks : List ℕ) → IsPartition p blocks → IsSteady p blocks → IsStable p blocks
IsStable-steady p blocks partition steady = record {
  labels = λ i j i_in j_in e. ap (λ key. key.label) (keys_of_block p blocks partition.keeps.long steady i j i_in j_in e);
  children = λ i j i_in j_in e. ap (λ key. key.children) (keys_of_block p blocks partition.keeps.long steady i j i_in j_in e);
}

-- it is the coarsest
pub IsCoarsest-partition : (p : Points) (blocks : List ℕ) → IsClosed p → IsPartition p blocks → IsCoarsest p blocks
IsCoarsest-partition p blocks closed partition = record {
  agreeing = partition.keeps.together;
  related = λ relates bisimulation i j i_in j_in h.
      partition.keeps.together i j i_in j_in (λ depth. AgreeAlways-related p relates closed bisimulation depth i j i_in j_in h);
}

-- its blocks are named for their least points
pub AreLeastPoints-steady : (p : Points) (blocks : List ℕ) → IsPartition p blocks → IsSteady p blocks → AreLeastPoints p blocks
AreLeastPoints-steady p blocks partition steady = record {
  least = λ i within. partition.early i;
  member = λ i within.
      let low : block_at blocks i ≤ i = partition.early i in
      let long = partition.keeps.long in
      steady.together (block_at blocks i) i (omega arith) (omega arith) (steady.alike i (omega arith));
}

-- points are in one block exactly where they agree at every depth
pub agreement : (p : Points) (blocks : List ℕ) → IsClosed p → IsPartition p blocks → IsSteady p blocks → (i j : ℕ) → i < p.count → j < p.count → (block_at blocks i ≡ block_at blocks j) ↔ AgreeAlways p i j
agreement p blocks closed partition steady i j i_in j_in = (
  λ e depth. AgreeAlways-steady p blocks closed partition.keeps.long steady depth i j i_in j_in e,
  partition.keeps.together i j i_in j_in,
)

-- being in one block is a bisimulation
IsBisimulation-blocks : (p : Points) (blocks : List ℕ) → IsClosed p → IsStable p blocks → IsBisimulation p (λ i j. nat_eq (block_at blocks i) (block_at blocks j))
IsBisimulation-blocks p blocks closed stable = record {
  labels = λ i j i_in j_in h. stable.labels i j i_in j_in (eqb-true (block_at blocks i) (block_at blocks j) h);
  children = λ i j i_in j_in h.
      pointwise-blocks p.count blocks (λ m n. nat_eq (block_at blocks m) (block_at blocks n)) (λ m n m_in n_in e. eq-eqb (block_at blocks m) (block_at blocks n) e) (p.children i) (p.children j) (closed i i_in) (closed j j_in) (stable.children i j i_in j_in (eqb-true (block_at blocks i) (block_at blocks j) h));
}

-- points are in one block exactly where some bisimulation relates them
pub bisimilarity : (p : Points) (blocks : List ℕ) → IsClosed p → IsPartition p blocks → IsSteady p blocks → (i j : ℕ) → i < p.count → j < p.count → (block_at blocks i ≡ block_at blocks j) ↔ AreBisimilar p i j
bisimilarity p blocks closed partition steady i j i_in j_in = (
  λ e. record {
    relates = λ m n. nat_eq (block_at blocks m) (block_at blocks n);
    bisimulation = IsBisimulation-blocks p blocks closed (IsStable-steady p blocks partition steady);
    related = eq-eqb (block_at blocks i) (block_at blocks j) e;
  },
  λ h. (IsCoarsest-partition p blocks closed partition).related h.relates h.bisimulation i j i_in j_in h.related,
)
