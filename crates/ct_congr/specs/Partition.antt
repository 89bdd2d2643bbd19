-- Classes of terms, by the representative of each term.
use Rattle.std.specs.Prelude.{◌≡◌, ℕ, ◌⊎◌, List, length, Option, Some, None, slice_get, Contains}
use Rattle.ct_terms.specs.declared.ids.TermId.{TermId}

-- the two terms have one representative
abbrev pub InOneClass : List TermId → TermId → TermId → Type 0
InOneClass reps x y = (r : TermId) × (slice_get reps x.0 ≡ Some r) × (slice_get reps y.0 ≡ Some r)

-- no term stands twice in the list
abbrev pub AreDistinct : List TermId → Type 0
AreDistinct members = (i j : ℕ) (t : TermId) → slice_get members i ≡ Some t → slice_get members j ≡ Some t → i ≡ j

-- the list has exactly the terms with this representative, each once
pub record IsClass (reps : List TermId) (r : TermId) (members : List TermId) : Type 0 where
  pub all : (t : TermId) → slice_get reps t.0 ≡ Some r → Contains members t
  pub only : (t : TermId) → Contains members t → slice_get reps t.0 ≡ Some r
  pub once : AreDistinct members

-- the terms with the second representative have the first one, and the others have theirs
pub record IsRelabelled (old new : List TermId) (winner loser : TermId) : Type 0 where
  pub long : length new ≡ length old
  pub each : (x r : TermId) → slice_get old x.0 ≡ Some r → ((r ≡ loser) × (slice_get new x.0 ≡ Some winner)) ⊎ ((r ≡ loser → ⊥) × (slice_get new x.0 ≡ Some r))

-- the classes of the two terms are one now
pub record IsUnion (old new : List TermId) (a b winner loser : TermId) : Type 0 where
  pub left : TermId
  pub right : TermId
  pub left_is : slice_get old a.0 ≡ Some left
  pub right_is : slice_get old b.0 ≡ Some right
  pub apart : winner ≡ loser → ⊥
  pub sides : ((winner ≡ left) × (loser ≡ right)) ⊎ ((winner ≡ right) × (loser ≡ left))
  pub loser_is : slice_get old loser.0 ≡ Some loser
  pub winner_is : slice_get old winner.0 ≡ Some winner
  pub relabelled : IsRelabelled old new winner loser

-- the answer says how the classes of the two terms were made one
abbrev pub IsUnited : List TermId → List TermId → TermId → TermId → Option (TermId × TermId) → Type 0
IsUnited old new a b None = (new ≡ old) × InOneClass old a b
IsUnited old new a b (Some pair) = IsUnion old new a b pair.0 pair.1
