-- How a text that may go on is answered as far as it is there.
use Rattle.std.specs.Prelude.{◌≡◌, ℕ, true, false, Bool, List, [], ◌∷◌}
use Rattle.std.specs.Bool.{MatchBool}
use Rattle.ct_sexpr.specs.Text.{Located, Ending, lexical, Reads, EndingSoFar, waiting, refused, ReadsSoFar}
use Rattle.ct_sexpr.specs.Unread.{Unread}
use Rattle.ct_step.specs.Evidence.{Evidence}
use Rattle.ct_step.specs.State.{State}
use Rattle.ct_step.specs.Step.{CommandEffect, Step, counted}
use Rattle.ct_script.specs.Answers.{Answers, IsSilent, IsFollowed, IsEnding}

-- as `Answers`, of a text that may go on: all of it is answered only where a command ends the script, or an error is definite
abbrev pub AnswersSoFar : State → ℕ → List Located → EndingSoFar → Evidence → List (ℕ × ℕ) → List (List ℕ) → Type 0
AnswersSoFar s number [] waiting kept errors lines = ⊥
AnswersSoFar s number [] (refused code line) kept errors lines = IsEnding (lexical code line) kept errors lines
AnswersSoFar s number (c ∷ cs) so_far kept errors lines =
    (e : CommandEffect) × (later_kept : Evidence) × (later_errors : List (ℕ × ℕ)) × (later_lines : List (List ℕ))
    × Step s number c.line c.command e × IsFollowed c.line e kept later_kept errors later_errors lines later_lines
    × MatchBool e.stop (IsSilent later_kept later_errors later_lines) (AnswersSoFar e.state (counted number c.command) cs so_far later_kept later_errors later_lines)

-- how a text stands, which ends or may go on
pub data TextState : Type 0 where
  ends : Ending → TextState
  stands : EndingSoFar → TextState

-- what a reader was fed has these commands, and stands so after them: as it ends, where the input has ended, and else so far
abbrev pub HasReadSoFar : Unread → List Located → TextState → Type 0
HasReadSoFar u cs (ends x) = (u.ended ≡ true) × Reads u.line u.bytes cs x
HasReadSoFar u cs (stands x) = (u.ended ≡ false) × ReadsSoFar u.line u.bytes cs x

-- the answers to these commands and this outcome
abbrev pub AnswersTo : State → ℕ → List Located → TextState → Evidence → List (ℕ × ℕ) → List (List ℕ) → Type 0
AnswersTo s number cs (ends x) kept errors lines = Answers s number cs x kept errors lines
AnswersTo s number cs (stands x) kept errors lines = AnswersSoFar s number cs x kept errors lines

-- the outcome of a text that is refused at this error, by its line and its number, where the input has ended or not
abbrev pub refusal : Bool → ℕ × ℕ → TextState
refusal true error = ends (lexical error.1 error.0)
refusal false error = stands (refused error.1 error.0)
