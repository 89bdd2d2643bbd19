-- The marks of cited lines, and the numbers that these lines have after the others are gone.
use Rattle.std.specs.Prelude.{◌≡◌, ◌↔◌, ℕ, suc, ◌+◌, ◌<◌, ◌≤◌, ◌⊎◌, Bool, true, false, List, [], ◌∷◌, ◌++◌, length, All, Contains, Some, get_or, slice_get}
use Rattle.ct_terms.specs.declared.ids.TermId.{TermId}
use Rattle.ct_terms.specs.Clause.{Clause}
use Rattle.ct_log.specs.declared.line.Line.{Line}
use Rattle.ct_log.specs.declared.line.Step.TheVariants.{Input}
use Rattle.ct_core.specs.Cited.{hints_of, IsLineWith, IsCited}
use Rattle.ct_core.specs.Trimmed.{AreRising, AreRenumbered}

-- each line names earlier lines alone
abbrev pub NameEarlier : List Line → Type 0
NameEarlier lines = (index : ℕ) (line : Line) → slice_get lines index ≡ Some line → All (λ hint. (0 < hint) × (hint ≤ index)) (hints_of line.step)

-- the line with this number is marked
abbrev pub IsMarked : List Bool → ℕ → Type 0
IsMarked marks number = slice_get marks number ≡ Some true

-- these numbers are marked beside those that were, and no others
pub record MarksToo (old new : List Bool) (numbers : List ℕ) : Type 0 where
  pub long : length new ≡ length old
  pub stays : (n : ℕ) → IsMarked old n → IsMarked new n
  pub each : All (IsMarked new) numbers
  pub only : (n : ℕ) → IsMarked new n → IsMarked old n ⊎ Contains numbers n

-- the line with this number, of so many, is one of the first, or the last
abbrev pub IsFirst : ℕ → ℕ → ℕ → Type 0
IsFirst kept count number = (0 < number) × (number ≤ count) × ((number ≤ kept) ⊎ (number ≡ count))

-- there is a mark for each number up to that of the last line, and exactly those of cited lines are set
pub record AreMarks (kept : ℕ) (lines : List Line) (marks : List Bool) : Type 0 where
  pub long : length marks ≡ suc (length lines)
  pub exact : (number : ℕ) → IsMarked marks number ↔ IsCited kept lines number
  pub positive : IsMarked marks 0 → ⊥

-- what a line from this index on names is marked, where the line is
abbrev pub MarksFrom : ℕ → List Line → List Bool → Type 0
MarksFrom bound lines marks = (index : ℕ) (line : Line) → bound ≤ index → slice_get lines index ≡ Some line → IsMarked marks (suc index) → All (IsMarked marks) (hints_of line.step)

-- what a mark adds to the number of marks before it
abbrev pub bit : Bool → ℕ
bit true = 1
bit false = 0

-- the number that the line has among those that are marked
abbrev pub place_in : List ℕ → ℕ → ℕ
place_in places number = get_or places number 0

-- for each number how many marks are set up to it
pub record ArePlaces (marks : List Bool) (places : List ℕ) : Type 0 where
  pub long : length places ≡ length marks
  pub first : place_in places 0 ≡ bit (get_or marks 0 false)
  pub next : (n : ℕ) → suc n < length marks → place_in places (suc n) ≡ place_in places n + bit (get_or marks (suc n) false)

-- what a line with a mark names is marked
abbrev pub AreClosedMarks : List Bool → List Line → Type 0
AreClosedMarks marks lines = (number : ℕ) (line : Line) → IsMarked marks number → IsLineWith lines number line → All (IsMarked marks) (hints_of line.step)

-- each term that an input line with a mark names is one of these
abbrev pub HaveInputs : List Bool → List Line → List TermId → Type 0
HaveInputs marks lines asserts = (number : ℕ) (line : Line) (t : TermId) → IsMarked marks number → IsLineWith lines number line → line.step ≡ Input t → Contains asserts t

-- the last line has this clause
abbrev pub EndsWith : List Line → Clause → Type 0
EndsWith lines clause = (before : List Line) × (last : Line) × (lines ≡ before ++ last ∷ []) × (last.clause ≡ clause)

-- the new lines are those of the first so many old ones that are marked, in order, with their hints renumbered
pub record IsCopied (count : ℕ) (marks : List Bool) (places : List ℕ) (old new : List Line) : Type 0 where
  pub numbers : List ℕ
  pub rising : AreRising numbers
  pub marked : (number : ℕ) → Contains numbers number ↔ (IsMarked marks number × (number ≤ count))
  pub counted : place_in places count ≡ length numbers
  pub are_renumbered : AreRenumbered numbers (place_in places) old new
  pub ends : (line : Line) → IsMarked marks count → IsLineWith old count line → EndsWith new line.clause
