-- Where the answers to a script come to one of its checks.
use Rattle.std.specs.Prelude.{◌≡◌, ℕ, true, List, ◌∷◌, ◌++◌}
use Rattle.ct_sexpr.specs.Text.{Located, Ending}
use Rattle.ct_command.specs.Reading.{command}
use Rattle.ct_step.specs.Evidence.{Evidence}
use Rattle.ct_step.specs.State.{State, first_state}
use Rattle.ct_step.specs.Step.{counted}
use Rattle.ct_script.specs.Replay.{is_check, HaveOneStack, AnswersThrough}

-- the script has a check with this number, and the answers to the script come to it in a state that has the stack and the options
-- of the one that was found
pub record IsAtCheck (script : List Located) (wanted : ℕ) (found : State) (ending : Ending) (kept : Evidence) (errors : List (ℕ × ℕ)) (lines : List (List ℕ)) : Type 0 where
  pub before : List Located
  pub check : Located
  pub after : List Located
  pub all : script ≡ before ++ check ∷ after
  pub asks : is_check (command check.command) ≡ true
  -- the state of the answers at the check, and how many checks there were before it
  pub last : State
  pub count : ℕ
  pub through : AnswersThrough first_state 0 before (check ∷ after) ending kept errors lines last count
  pub number : counted count check.command ≡ wanted
  pub same : HaveOneStack last found
