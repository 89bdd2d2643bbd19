-- A derivation that is cut down to the lines that are cited, each with its hints renumbered.
use Rattle.std.specs.Prelude.{◌≡◌, ◌↔◌, ℕ, ◌+◌, ◌<◌, List, length, map, Contains, Some, slice_get}
use Rattle.ct_log.specs.declared.line.Line.{Line}
use Rattle.ct_log.specs.declared.line.Step.{Step}
use Rattle.ct_log.specs.declared.line.Step.TheVariants.{Input, Gate, Exhaust, Theory, Learn}
use Rattle.ct_core.specs.Cited.{IsLineWith, IsCited}

-- the step where each line that it names has the number that this function gives
abbrev pub renumbered_step : (ℕ → ℕ) → Step → Step
renumbered_step place (Input t) = Input t
renumbered_step place (Gate gate t argument) = Gate gate t argument
renumbered_step place (Exhaust t) = Exhaust t
renumbered_step place (Theory steps close) = Theory steps close
renumbered_step place (Learn hints) = Learn (map place hints)

-- the line with its hints renumbered
abbrev pub renumbered : (ℕ → ℕ) → Line → Line
renumbered place line = record { clause = line.clause; step = renumbered_step place line.step }

-- each number is greater than those before it
abbrev pub AreRising : List ℕ → Type 0
AreRising numbers = (j k m n : ℕ) → slice_get numbers j ≡ Some m → slice_get numbers k ≡ Some n → j < k → m < n

-- the new lines are those of the old ones that have these numbers, in order, with their hints renumbered: a line that has the number
-- at some index stands there among the new ones, and so its number is one more
pub record AreRenumbered (numbers : List ℕ) (place : ℕ → ℕ) (old new : List Line) : Type 0 where
  pub long : length new ≡ length numbers
  pub placed : (index number : ℕ) → slice_get numbers index ≡ Some number → place number ≡ index + 1
  pub each : (index number : ℕ) → slice_get numbers index ≡ Some number
      → (line : Line) × IsLineWith old number line × (slice_get new index ≡ Some (renumbered place line))

-- the new lines are exactly the old ones that are cited, in order, with their hints renumbered
pub record IsTrimmed (kept : ℕ) (old new : List Line) : Type 0 where
  pub numbers : List ℕ
  pub place : ℕ → ℕ
  pub rising : AreRising numbers
  pub cited : (number : ℕ) → Contains numbers number ↔ IsCited kept old number
  pub are_renumbered : AreRenumbered numbers place old new
