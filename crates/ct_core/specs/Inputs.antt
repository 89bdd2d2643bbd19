-- The assertions that lines with a mark are given, and their first places.
use Rattle.std.specs.Prelude.{◌≡◌, ◌↔◌, ℕ, suc, ◌<◌, ◌⊎◌, Bool, List, length, Contains, Some, slice_get}
use Rattle.ct_terms.specs.declared.ids.TermId.{TermId}
use Rattle.ct_log.specs.declared.line.Line.{Line}
use Rattle.ct_log.specs.declared.line.Step.TheVariants.{Input}
use Rattle.ct_core.specs.Core.{IsFirstPlace, AreAt}
use Rattle.ct_core.specs.Sweep.{IsMarked}
use Rattle.ct_core.specs.Trimmed.{AreRising}

-- the line at this index has a mark, and is given the term
pub record IsGivenAt (marks : List Bool) (lines : List Line) (index : ℕ) (t : TermId) : Type 0 where
  pub line : Line
  pub stands : slice_get lines index ≡ Some line
  pub marked : IsMarked marks (suc index)
  pub input : line.step ≡ Input t

-- one of the first lines, so many, has a mark, and is given the term
abbrev pub IsGiven : List Bool → List Line → ℕ → TermId → Type 0
IsGiven marks lines count t = (index : ℕ) × (index < count) × IsGivenAt marks lines index t

-- exactly the terms that one of the first lines with a mark is given are marked
abbrev pub AreGivenMarks : List Bool → List Line → ℕ → List Bool → Type 0
AreGivenMarks marks lines count given = (t : TermId) → IsMarked given t.0 ↔ IsGiven marks lines count t

-- the terms that lines are given are below this number
abbrev pub AreInputsBelow : ℕ → List Line → Type 0
AreInputsBelow bound lines = (index : ℕ) (line : Line) (t : TermId) → slice_get lines index ≡ Some line → line.step ≡ Input t → t.0 < bound

-- the term stands at one of the first places, so many
abbrev pub IsAmongFirst : List TermId → ℕ → TermId → Type 0
IsAmongFirst asserts count t = (place : ℕ) × (place < count) × (slice_get asserts place ≡ Some t)

-- of the first places, so many, those were taken that are the first ones of a marked term, with their terms, and the marks of
-- these are gone
pub record IsChosen (asserts : List TermId) (marked : List Bool) (count : ℕ) (places : List ℕ) (terms : List TermId) (left : List Bool) : Type 0 where
  pub long : length left ≡ length marked
  pub stays : (t : TermId) → IsMarked left t.0 → IsMarked marked t.0
  pub later : (t : TermId) → IsMarked left t.0 → IsAmongFirst asserts count t → ⊥
  pub taken : (t : TermId) → IsMarked marked t.0 → IsMarked left t.0 ⊎ Contains terms t
  pub rising : AreRising places
  pub exact : (place : ℕ) → Contains places place ↔ ((place < count) × ((t : TermId) × IsFirstPlace asserts t place × IsMarked marked t.0))
  pub stand : AreAt asserts places terms
