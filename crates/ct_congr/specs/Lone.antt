-- How the terms are found that are congruent to themselves alone: each term with one and the same argument put in at each
-- place, which is its head and its number of arguments.
use Rattle.std.specs.Prelude.{◌≡◌, ℕ, ◌<◌, ◌⊎◌, Bool, false, List, Some, slice_get}
use Rattle.ct_terms.specs.declared.ids.TermId.{TermId}
use Rattle.ct_terms.specs.declared.term.Core.{Core}
use Rattle.ct_congr.specs.Normal.{IsNormal}
use Rattle.ct_equivalence.specs.Signatures.{Signatures, IsUnder}

-- the list has one and the same term at each place
abbrev pub IsBlank : List TermId → Type 0
IsBlank blank = (j k : ℕ) (x y : TermId) → slice_get blank j ≡ Some x → slice_get blank k ≡ Some y → x ≡ y

-- the terms beside the keys have numbers below n
abbrev pub AreKeysBelow : ℕ → Signatures → Type 0
AreKeysBelow n keys = (key : Core) (t : TermId) → IsUnder keys key t → t.0 < n

-- the term is the first one of its head and number of arguments, or neither of the two is marked
pub record IsListed (blank : List TermId) (keys : Signatures) (lone : List Bool) (t : TermId) (core : Core) : Type 0 where
  pub key : Core
  pub first : TermId
  pub normal : IsNormal blank core key
  pub keyed : IsUnder keys key first
  pub sides : (t ≡ first) ⊎ ((slice_get lone t.0 ≡ Some false) × (slice_get lone first.0 ≡ Some false))
