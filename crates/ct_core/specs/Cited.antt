-- Which lines the last line of a derivation rests on, as a checker that goes backward finds them (Goldberg and Novikov 2003).
use Rattle.std.specs.Prelude.{◌≡◌, ℕ, ◌+◌, ◌<◌, ◌≤◌, Bool, true, List, [], length, All, Some, slice_get}
use Rattle.ct_log.specs.declared.line.Line.{Line}
use Rattle.ct_log.specs.declared.line.Step.{Step}
use Rattle.ct_log.specs.declared.line.Step.TheVariants.{Input, Gate, Exhaust, Theory, Learn}

-- the numbers of the lines that a step names: the hints of a clause that was learned
abbrev pub hints_of : Step → List ℕ
hints_of (Input t) = []
hints_of (Gate gate t place) = []
hints_of (Exhaust t) = []
hints_of (Theory steps close) = []
hints_of (Learn hints) = hints

-- the line has this number, counted from 1
abbrev pub IsLineWith : List Line → ℕ → Line → Type 0
IsLineWith lines number line = (index : ℕ) × (number ≡ index + 1) × (slice_get lines index ≡ Some line)

-- the set has the numbers of the first lines, so many of them, and of the last line, and with a line those that the line names
pub record HoldsCited (kept : ℕ) (lines : List Line) (has : ℕ → Bool) : Type 0 where
  pub first : (number : ℕ) → 0 < number → number ≤ kept → number ≤ length lines → has number ≡ true
  pub last : 0 < length lines → has (length lines) ≡ true
  pub named : (number : ℕ) (line : Line) → has number ≡ true → IsLineWith lines number line → All (λ hint. has hint ≡ true) (hints_of line.step)

-- the line with this number is cited: its number is in the least such set
abbrev pub IsCited : ℕ → List Line → ℕ → Type 0
IsCited kept lines number = (has : ℕ → Bool) → HoldsCited kept lines has → has number ≡ true
