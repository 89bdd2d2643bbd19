-- What the union of two classes changes.
use Rattle.std.specs.Prelude.{◌≡◌, ℕ, ◌⊎◌, List, ◌++◌, length, Option, Some, None, slice_get}
use Rattle.ct_terms.specs.declared.ids.TermId.{TermId}
use Rattle.ct_equivalence.specs.declared.union.Union.{Union}
use Rattle.ct_equivalence.specs.Partition.{InOneClass, IsRelabelled}
use Rattle.ct_equivalence.specs.Grouping.{Grouping}

-- what stood at the first stays, and where nothing did it is what stands at the second
pub record AreConsJoined (old new : List (Option TermId)) (winner loser : TermId) : Type 0 where
  pub long : length new ≡ length old
  pub others : (k : ℕ) → (k ≡ winner.0 → ⊥) → slice_get new k ≡ slice_get old k
  pub stays : (c : TermId) → slice_get old winner.0 ≡ Some (Some c) → slice_get new winner.0 ≡ Some (Some c)
  pub comes : slice_get old winner.0 ≡ Some None → slice_get new winner.0 ≡ slice_get old loser.0

-- the row of the first has that of the second at its end, and the others are as they were
pub record AreRowsJoined (old new : List (List TermId)) (winner loser : TermId) : Type 0 where
  pub long : length new ≡ length old
  pub others : (k : ℕ) → (k ≡ winner.0 → ⊥) → slice_get new k ≡ slice_get old k
  pub joined : (mine moved : List TermId) → slice_get old winner.0 ≡ Some mine → slice_get old loser.0 ≡ Some moved → slice_get new winner.0 ≡ Some (mine ++ moved)

-- the class of the second representative is put to that of the first
pub record IsJoin (old new : Grouping) (winner loser : TermId) : Type 0 where
  pub apart : winner ≡ loser → ⊥
  pub winner_is : slice_get old.reps winner.0 ≡ Some winner
  pub loser_is : slice_get old.reps loser.0 ≡ Some loser
  pub relabelled : IsRelabelled old.reps new.reps winner loser
  pub cons : AreConsJoined old.cons new.cons winner loser
  pub members : AreRowsJoined old.members new.members winner loser
  pub uses : AreRowsJoined old.uses new.uses winner loser

-- the classes of the two terms are one now
pub record IsUnion (old new : Grouping) (a b winner loser : TermId) : Type 0 where
  pub left : TermId
  pub right : TermId
  pub left_is : slice_get old.reps a.0 ≡ Some left
  pub right_is : slice_get old.reps b.0 ≡ Some right
  pub sides : ((winner ≡ left) × (loser ≡ right)) ⊎ ((winner ≡ right) × (loser ≡ left))
  pub join : IsJoin old new winner loser

-- the answer says how the classes of the two terms were made one, or that they were one
abbrev pub IsUnited : Grouping → Grouping → TermId → TermId → Option Union → Type 0
IsUnited old new a b None = (new ≡ old) × InOneClass old.reps a b
IsUnited old new a b (Some union) = IsUnion old new a b union.winner union.loser

-- the last union took this class: the term represented one before, and does not now
abbrev pub IsTaken : Grouping → Grouping → TermId → Type 0
IsTaken before now loser = (slice_get before.reps loser.0 ≡ Some loser) × (slice_get now.reps loser.0 ≡ Some loser → ⊥)
