-- Tables of terms by their signatures: cores whose children are representatives (Downey, Sethi and Tarjan 1980).
use Rattle.std.specs.Prelude.{◌≡◌, ℕ, Bool, List, Some, slice_get, Contains}
use Rattle.ct_terms.specs.declared.ids.TermId.{TermId}
use Rattle.ct_terms.specs.declared.term.Core.{Core}
use Rattle.ct_terms.specs.contracts.term.CorePartialEq.TheImpl as derived

-- the derived test of two cores
abbrev pub same_core : Core → Core → Bool
same_core = derived.eq-value.it

-- signatures, each with its term, in the order in which they came
abbrev pub Signatures : Type 0
Signatures = List (Core × TermId)

-- the term stands under the signature
abbrev pub IsUnder : Signatures → Core → TermId → Type 0
IsUnder entries key t = Contains entries (key, t)

-- no term stands under the signature
abbrev pub IsFree : Signatures → Core → Type 0
IsFree entries key = (t : TermId) → IsUnder entries key t → ⊥

-- no signature stands twice
abbrev pub AreDifferent : Signatures → Type 0
AreDifferent entries = (i j : ℕ) (key : Core) (t u : TermId) → slice_get entries i ≡ Some (key, t) → slice_get entries j ≡ Some (key, u) → i ≡ j
