-- Marks on literals: a set that is emptied by one step.
use Rattle.std.specs.Prelude.{◌≡◌, ◌↔◌, ℕ, ◌+◌, ◌*◌, ◌⊎◌, Bool, true, false, List, Some, slice_get, Contains}
use Rattle.ct_terms.specs.declared.ids.Lit.{Lit}

-- for each literal the round in which it was last marked, the present round, the marked literals that have no stamp, and how
-- many of those there may be
pub record Marking : Type 0 where
  pub stamps : List ℕ
  pub round : ℕ
  pub others : List Lit
  pub room : ℕ

-- where the stamp of a literal stands: two a term, the negative one first
abbrev pub sign_index : Bool → ℕ
sign_index true = 1
sign_index false = 0

abbrev pub stamp_index : Lit → ℕ
stamp_index l = l.term.0 * 2 + sign_index l.positive

-- the literal is marked
abbrev pub IsMarked : Marking → Lit → Type 0
IsMarked m l = (slice_get m.stamps (stamp_index l) ≡ Some m.round) ⊎ Contains m.others l

-- exactly the literals of the set are marked
abbrev pub AreMarked : Marking → List Lit → Type 0
AreMarked m set = (l : Lit) → IsMarked m l ↔ Contains set l
