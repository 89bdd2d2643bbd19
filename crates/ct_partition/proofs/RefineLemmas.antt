-- Refinement: what agrees at every depth stays together, where a round changes nothing what is together agrees, and a round
-- that changes something raises the sum of the blocks.
use Rattle.std.proofs.Common.{◌≡◌, ℕ, zero, suc, ◌+◌, ◌*◌, ◌<◌, ◌≤◌, ◌⊎◌, Bool, IsTrue, List, [], ◌∷◌, length, map, slice_index, get_or, sum, All, refl, sym, ap, ap₂, subst, ◌∙◌, inl, inr, arith, eq-or-lt_of_le}
use Rattle.std.specs.Cmp.Lexicographic.{pointwise}
use Rattle.std.proofs.lemmas.Grind.{get_or_default_zero}
use Rattle.std.proofs.lemmas.List.Elements.{All-from_get_or}
use Rattle.std.proofs.lemmas.List.Sums.{sum_by-cons, sum_by-le}
use Rattle.ct_lemmas.proofs.Booleans.{both_true}
use Rattle.ct_partition.specs.Points.{Points}
use Rattle.ct_partition.specs.Bisimilarity.{agree}
use Rattle.ct_partition.specs.Partition.{block_at}
use Rattle.ct_partition.specs.Refinement.{key_of, KeepsTogether, IsPartition, IsRefined}
use Rattle.ct_partition.proofs.AgreeLemmas.{IsClosed, agree-zero, agree-suc}
use Rattle.ct_partition.proofs.SaturatedLemmas.{keys_together}

-- what is read at an index is the block there
pub block_read : (blocks : List ℕ) (i x : ℕ) → i < length blocks → x ≡ get_or blocks i x → block_at blocks i ≡ x
block_read blocks i x within read = sym (read ∙ get_or_default_zero blocks i x within)

-- a round keeps together what agrees at every depth
pub IsPartition-refined : (p : Points) (old new : List ℕ) → IsClosed p → KeepsTogether p old → IsRefined p old new → IsPartition p new
IsPartition-refined p old new closed keeps refined = record {
  keeps = record {
    long = refined.long ∙ keeps.long;
    together = λ i j i_in j_in alike.
        refined.together i j (subst (λ n. i < n) (sym keeps.long) i_in) (subst (λ n. j < n) (sym keeps.long) j_in) (keys_together p old i j closed keeps i_in j_in alike);
  };
  early = refined.early;
}

-- where a round changes nothing, points of one block have one key
pub keys_of_block : (p : Points) (blocks : List ℕ) → length blocks ≡ p.count → IsRefined p blocks blocks → (i j : ℕ) → i < p.count → j < p.count → block_at blocks i ≡ block_at blocks j → key_of p blocks i ≡ key_of p blocks j
keys_of_block p blocks long refined i j i_in j_in e =
    sym (refined.alike i (omega arith)) ∙ ap (key_of p blocks) e ∙ refined.alike j (omega arith)

-- points in one block each pass a test one for one that points of one block pass
pub pointwise-blocks : (count : ℕ) (blocks : List ℕ) (E : ℕ → ℕ → Bool) → ((m n : ℕ) → m < count → n < count → block_at blocks m ≡ block_at blocks n → IsTrue (E m n)) → (ms ns : List ℕ) → All (λ m. m < count) ms → All (λ n. n < count) ns → map (block_at blocks) ms ≡ map (block_at blocks) ns → IsTrue (pointwise E ms ns)
pointwise-blocks count blocks E each [] [] ms_in ns_in e = refl
pointwise-blocks count blocks E each [] (n ∷ ns) ms_in ns_in e = cc
pointwise-blocks count blocks E each (m ∷ ms) [] ms_in ns_in e = cc
pointwise-blocks count blocks E each (m ∷ ms) (n ∷ ns) ms_in ns_in e =
    both_true
    (E m n)
    (pointwise E ms ns)
    (each m n (ms_in 0 m (omega arith)) (ns_in 0 n (omega arith)) (cc))
    (pointwise-blocks count blocks E each ms ns (λ k d within. ms_in (suc k) d (omega arith)) (λ k d within. ns_in (suc k) d (omega arith)) (cc))

-- and they agree at every depth
pub AgreeAlways-steady : (p : Points) (blocks : List ℕ) → IsClosed p → length blocks ≡ p.count → IsRefined p blocks blocks → (depth i j : ℕ) → i < p.count → j < p.count → block_at blocks i ≡ block_at blocks j → IsTrue (agree p depth i j)
AgreeAlways-steady p blocks closed long refined zero i j i_in j_in e = agree-zero p i j
AgreeAlways-steady p blocks closed long refined (suc depth) i j i_in j_in e =
    let keys = keys_of_block p blocks long refined i j i_in j_in e in
    agree-suc p depth i j
    (ap (λ key. key.label) keys)
    (pointwise-blocks p.count blocks (agree p depth) (AgreeAlways-steady p blocks closed long refined depth) (p.children i) (p.children j) (closed i i_in) (closed j j_in) (ap (λ key. key.children) keys))

-- ---- a round that changes something raises the sum of the blocks

-- a round raises no block below the old one
blocks_rise : (p : Points) (old new : List ℕ) → ((i : ℕ) → block_at old i ≤ i) → IsRefined p old new → (i : ℕ) → i < length old → block_at old i ≤ block_at new i
blocks_rise p old new early refined i within =
    let first = block_at new i in
    let block : block_at old first ≡ block_at old i = ap (λ key. key.block) (refined.alike i within) in
    subst (λ b. b ≤ first) block (early first)

-- larger numbers have a larger sum, unless they are the same
sum-rises : (xs ys : List ℕ) → length ys ≡ length xs → ((i : ℕ) → i < length xs → slice_index xs i ≤ slice_index ys i) → (ys ≡ xs) ⊎ (sum xs < sum ys)
sum-rises [] [] long above = inl refl
sum-rises [] (y ∷ ys) long above = absurd (omega arith)
sum-rises (x ∷ xs) [] long above = absurd (omega arith)
sum-rises (x ∷ xs) (y ∷ ys) long above =
    let first : x ≤ y = above 0 (omega arith) in
    let rest = sum-rises xs ys (omega arith) (λ i within. above (suc i) (omega arith)) in
    let left : sum (x ∷ xs) ≡ x + sum xs = sum_by-cons (λ n. n) x xs in
    let right : sum (y ∷ ys) ≡ y + sum ys = sum_by-cons (λ n. n) y ys in
    elim (eq-or-lt_of_le first) [
      | inl e ↦ elim rest [
        | inl same ↦ inl (ap₂ (λ (n : ℕ) (ns : List ℕ). n ∷ ns) (sym e) same)
        | inr less ↦ inr (omega arith)
      ]
      | inr less ↦ elim rest [
        | inl same ↦ let sums : sum ys ≡ sum xs = ap sum same in inr (omega arith)
        | inr more ↦ inr (omega arith)
      ]
    ]

pub sum-refined : (p : Points) (old new : List ℕ) → IsPartition p old → IsRefined p old new → (new ≡ old → ⊥) → sum old < sum new
sum-refined p old new partition refined other =
    elim (sum-rises old new refined.long (blocks_rise p old new partition.early refined)) [
      | inl same ↦ absurd (other same)
      | inr less ↦ less
    ]

-- the sum of the blocks is bounded
pub sum-partition : (p : Points) (blocks : List ℕ) → IsPartition p blocks → sum blocks ≤ p.count * p.count
sum-partition p blocks partition =
    let each : All (λ b. b ≤ p.count) blocks = All-from_get_or (λ b. b ≤ p.count) blocks 0 (λ i within. let e : block_at blocks i ≤ i = partition.early i in omega (arith, partition.keeps.long)) in
    subst (λ n. sum blocks ≤ n * p.count) partition.keeps.long (sum_by-le (λ n. n) p.count blocks each)
