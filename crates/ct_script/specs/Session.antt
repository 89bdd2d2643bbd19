-- What a session comes to, command by command.
use Rattle.std.specs.Prelude.{ℕ, List, [], ◌++◌}
use Rattle.ct_sexpr.specs.Expression.{Expression}
use Rattle.ct_kept.specs.Kept.{Stored}
use Rattle.ct_command.specs.declared.option.ErrorBehavior.{ErrorBehavior}
use Rattle.ct_command.specs.declared.option.ErrorBehavior.TheVariants.{ContinuedExecution}
use Rattle.ct_step.specs.Evidence.{Evidence, no_evidence, followed_by}
use Rattle.ct_step.specs.State.{State, starting}
use Rattle.ct_step.specs.Step.{CommandEffect, counted}
use Rattle.ct_step.specs.Store.{first_store}
use Rattle.ct_script.specs.Answers.{errors_of}

-- what a session has come to: its state, how many checks it was given, what is kept of its answers, all errors with their lines, and the
-- store of clauses that the theory gave
pub record Course : Type 0 where
  pub state : State
  pub number : ℕ
  pub evidence : Evidence
  pub errors : List (ℕ × ℕ)
  pub store : Stored

-- at the start, where this follows an error
abbrev pub starting_course : ErrorBehavior → Course
starting_course behavior = record { state = starting behavior; number = 0; evidence = no_evidence; errors = []; store = first_store }

-- the same where a script goes on after an error
abbrev pub first_course : Course
first_course = starting_course ContinuedExecution

-- what it comes to by a command on this line with this effect, after so many checks, which leaves this store
abbrev pub reached : Course → ℕ → ℕ → CommandEffect → Stored → Course
reached c line number effect store =
    record {
      state = effect.state;
      number = number;
      evidence = followed_by c.evidence effect.evidence;
      errors = c.errors ++ errors_of line effect.error;
      store = store;
    }

-- what it comes to by an expression with this effect
abbrev pub after : Course → ℕ → Expression → CommandEffect → Stored → Course
after c line e effect store = reached c line (counted c.number e) effect store
