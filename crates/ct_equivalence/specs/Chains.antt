-- Rows of terms by their digests, chained by what is left of a digest modulo the number of chains: each row tells the last row
-- of its chain before it.
use Rattle.std.specs.Prelude.{◌≡◌, ℕ, suc, ◌<◌, ◌≤◌, ◌%◌, List, length, Option, Some, None, slice_get}
use Rattle.ct_terms.specs.declared.ids.TermId.{TermId}
use Rattle.ct_equivalence.specs.declared.chained.Row.{Row}

-- the digest and the term of each row, in the order in which they came
abbrev pub SignatureRows : Type 0
SignatureRows = List (ℕ × TermId)

abbrev pub row_pair : Row → ℕ × TermId
row_pair row = (row.digest, row.term)

-- the row is the last one before an end with this digest, or there is none
abbrev pub IsLastRow : SignatureRows → ℕ → ℕ → Option ℕ → Type 0
IsLastRow rows end digest (Some i) = (t : TermId) × (i < end) × (slice_get rows i ≡ Some (digest, t)) × ((j : ℕ) (u : TermId) → i < j → j < end → slice_get rows j ≡ Some (digest, u) → ⊥)
IsLastRow rows end digest None = (j : ℕ) (u : TermId) → j < end → slice_get rows j ≡ Some (digest, u) → ⊥

-- the row is of the chain
abbrev pub IsOfChain : List Row → ℕ → ℕ → ℕ → Type 0
IsOfChain rows chains chain i = (row : Row) × (slice_get rows i ≡ Some row) × (row.digest % chains ≡ chain)

-- the number is one more than that of the last row of the chain before an end, or zero where there is none
pub record IsTop (rows : List Row) (chains chain end top : ℕ) : Type 0 where
  pub below : top ≤ end
  pub there : (i : ℕ) → top ≡ suc i → IsOfChain rows chains chain i
  pub last : (j : ℕ) → top ≤ j → j < end → IsOfChain rows chains chain j → ⊥

-- the tops are those of the chains over all rows, and what each row tells is the top of its chain before it
pub record AreChained (rows : List Row) (tops : List ℕ) : Type 0 where
  pub some : 0 < length tops
  pub each : (chain top : ℕ) → slice_get tops chain ≡ Some top → IsTop rows (length tops) chain (length rows) top
  pub before : (i : ℕ) (row : Row) → slice_get rows i ≡ Some row → IsTop rows (length tops) (row.digest % length tops) i row.before

-- one more than the number of a row of the digest's chain, or zero; from it on no row before the end has the digest
pub record IsEntry (rows : List Row) (chains digest end next : ℕ) : Type 0 where
  pub there : (i : ℕ) → next ≡ suc i → IsOfChain rows chains (digest % chains) i
  pub last : (j : ℕ) (row : Row) → next ≤ j → j < end → slice_get rows j ≡ Some row → row.digest ≡ digest → ⊥
