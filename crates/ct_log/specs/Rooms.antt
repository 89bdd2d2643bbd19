-- How much working memory a line asks for.
use Rattle.std.specs.Prelude.{◌≡◌, ℕ, ◌*◌, ◌≤◌, List, length, Some, slice_get}
use Rattle.ct_terms.specs.Terms.{Terms}
use Rattle.ct_log.specs.declared.line.Line.{Line}
use Rattle.ct_log.specs.declared.line.Step.{Step}
use Rattle.ct_log.specs.declared.line.Step.TheVariants.{Input, Gate, Exhaust, Theory, Learn}

-- how many literals have a stamp, how many equations there may be, and how many literals may be marked that have no stamp
pub record Space : Type 0 where
  pub literals : ℕ
  pub equations : ℕ
  pub others : ℕ

-- there is room for an equation of each step, and for a literal of each hint
abbrev pub HasRoomFor : Space → Step → Type 0
HasRoomFor space (Input t) = Unit {0}
HasRoomFor space (Gate gate t place) = Unit {0}
HasRoomFor space (Exhaust t) = Unit {0}
HasRoomFor space (Theory steps close) = length steps ≤ space.equations
HasRoomFor space (Learn hints) = length hints ≤ space.others

-- there is room for two literals a term, and for each line
pub record IsRoomOf (space : Space) (terms : Terms) (lines : List Line) : Type 0 where
  pub literals : length terms * 2 ≤ space.literals
  pub each : (index : ℕ) (line : Line) → slice_get lines index ≡ Some line → HasRoomFor space line.step

-- the size is enough for the equations or hints of the step
abbrev pub IsEnoughFor : ℕ → Step → Type 0
IsEnoughFor size step = HasRoomFor (record { literals = 0; equations = size; others = size }) step
