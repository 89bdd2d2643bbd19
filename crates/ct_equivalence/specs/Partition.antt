-- Classes of terms, by the representative of each term.
use Rattle.std.specs.Prelude.{◌≡◌, ℕ, ◌<◌, ◌⊎◌, List, length, Some, slice_get, Contains}
use Rattle.ct_terms.specs.declared.ids.TermId.{TermId}

-- the two terms have one representative
abbrev pub InOneClass : List TermId → TermId → TermId → Type 0
InOneClass reps x y = (r : TermId) × (slice_get reps x.0 ≡ Some r) × (slice_get reps y.0 ≡ Some r)

-- so many terms, each its own representative
pub record AreAlone (count : ℕ) (reps : List TermId) : Type 0 where
  pub long : length reps ≡ count
  pub own : (x : TermId) → x.0 < count → slice_get reps x.0 ≡ Some x

-- no term stands twice in the list
abbrev pub AreDistinct : List TermId → Type 0
AreDistinct members = (i j : ℕ) (t : TermId) → slice_get members i ≡ Some t → slice_get members j ≡ Some t → i ≡ j

-- the list has exactly the terms with this representative, each once
pub record IsClass (reps : List TermId) (r : TermId) (members : List TermId) : Type 0 where
  pub all : (t : TermId) → slice_get reps t.0 ≡ Some r → Contains members t
  pub only : (t : TermId) → Contains members t → slice_get reps t.0 ≡ Some r
  pub once : AreDistinct members

-- the terms with the second representative have the first one, and the others have theirs
pub record IsRelabelled (old new : List TermId) (winner loser : TermId) : Type 0 where
  pub long : length new ≡ length old
  pub each : (x r : TermId) → slice_get old x.0 ≡ Some r → ((r ≡ loser) × (slice_get new x.0 ≡ Some winner)) ⊎ ((r ≡ loser → ⊥) × (slice_get new x.0 ≡ Some r))
