-- A script that is gone through once more without solving, up to one of its checks.
use Rattle.std.specs.Prelude.{◌≡◌, ℕ, Bool, true, false, ◌||◌, List, [], ◌∷◌, ◌++◌, Option, None, Some, Ok}
use Rattle.std.specs.Bool.{MatchBool}
use Rattle.ct_sexpr.specs.Expression.{Expression}
use Rattle.ct_sexpr.specs.Text.{Located, Ending}
use Rattle.ct_command.specs.Command.{declare_sort, define_sort, declare_block, declare_fun, define_fun, assert, check_sat, push, pop, reset_assertions, reset, get_model, get_value, get_proof, get_unsat_core, get_unsat_assumptions}
use Rattle.ct_command.specs.Reading.{Read, command}
use Rattle.ct_step.specs.Evidence.{Evidence, followed_by}
use Rattle.ct_script.specs.declared.replay.Replayed.{Replayed}
use Rattle.ct_script.specs.declared.replay.Standing.{Standing}
use Rattle.ct_script.specs.declared.replay.Standing.TheVariants.{Nothing, Check, Assuming}
use Rattle.ct_step.specs.State.{State}
use Rattle.ct_step.specs.Step.{CommandEffect, Step, counted, one_more}
use Rattle.ct_step.specs.Rehearsal.{Rehearses, assumed_terms}
use Rattle.ct_script.specs.Answers.{Answers, Leads, IsSilent, IsFollowed}
use Rattle.ct_script.specs.Session.{Course, reached}

-- what was read is a check
abbrev pub is_check : Read → Bool
is_check (Ok check_sat) = true
is_check read = false

-- a check is counted, and changes nothing else; its verdict stands then
abbrev pub IsCounted : Course → Course → Replayed → Type 0
IsCounted old new r = (new ≡ record old { number = one_more old.number }) × (r.check ≡ true) × (r.stop ≡ false) × (r.standing ≡ Check)

-- what was read asks for what the last verdict left
abbrev pub awaits_verdict : Read → Bool
awaits_verdict (Ok get_model) = true
awaits_verdict (Ok (get_value ts)) = true
awaits_verdict (Ok get_proof) = true
awaits_verdict (Ok get_unsat_core) = true
awaits_verdict (Ok get_unsat_assumptions) = true
awaits_verdict read = false

-- a verdict stands; that of a check without assumptions; that of a check with them
abbrev pub stands : Standing → Bool
stands Nothing = false
stands Check = true
stands Assuming = true

abbrev pub is_numbered : Standing → Bool
is_numbered Check = true
is_numbered standing = false

abbrev pub is_assuming : Standing → Bool
is_assuming Assuming = true
is_assuming standing = false

-- what becomes of the question is for a verdict to say: there is a derivation to print of a check without assumptions alone, and there
-- are assumptions of the others alone; where no such verdict stands the question is refused whatever was answered
abbrev pub hangs : Standing → Read → Bool
hangs standing (Ok get_model) = stands standing
hangs standing (Ok (get_value ts)) = stands standing
hangs standing (Ok get_proof) = is_numbered standing
hangs standing (Ok get_unsat_core) = stands standing
hangs standing (Ok get_unsat_assumptions) = is_assuming standing
hangs standing read = false

-- such a question is passed over
abbrev pub IsPassedOver : Course → Standing → Course → Replayed → Type 0
IsPassedOver old standing new r = (new ≡ old) × (r.check ≡ false) × (r.stop ≡ false) × (r.standing ≡ standing)

-- no verdict stands after such a command, where it is accepted
abbrev pub changes : Read → Bool
changes (Ok (declare_sort name params)) = true
changes (Ok (define_sort name params body)) = true
changes (Ok (declare_block family heads bodies)) = true
changes (Ok (declare_fun name args sort)) = true
changes (Ok (define_fun name params sort t)) = true
changes (Ok (assert t label)) = true
changes (Ok (push n)) = true
changes (Ok (pop n)) = true
changes (Ok reset_assertions) = true
changes (Ok reset) = true
changes read = false

-- of what check a verdict stands after a command that is accepted: of this one, if it is a check with assumptions
abbrev pub standing_by : Option (List Expression) → Bool → Standing → Standing
standing_by (Some ts) change standing = Assuming
standing_by None true standing = Nothing
standing_by None false standing = standing

-- and where it is refused nothing has changed
abbrev pub unless_refused : Option ℕ → Standing → Standing → Standing
unless_refused None before after = after
unless_refused (Some n) before after = before

abbrev pub standing_after : Standing → Read → Option ℕ → Standing
standing_after standing read error = unless_refused error standing (standing_by (assumed_terms read) (changes read) standing)

-- everything else does its step, and a check with assumptions what it does but for its verdict
abbrev pub IsStepped : Course → Standing → ℕ → Read → Course → Replayed → Type 0
IsStepped old standing line read new r =
    (e : CommandEffect) × Rehearses old.state old.number line read e × (new ≡ reached old line old.number e new.store)
    × (r.check ≡ false) × (r.stop ≡ e.stop) × (r.standing ≡ standing_after standing read e.error)

-- what was read on this line is replayed so, where a verdict of such a check stands
abbrev pub Replays : Course → Standing → ℕ → Read → Course → Replayed → Type 0
Replays old standing line read new r =
    MatchBool (is_check read) (IsCounted old new r) (MatchBool (hangs standing read) (IsPassedOver old standing new r) (IsStepped old standing line read new r))

-- a replay goes through commands, none of which ends the script
abbrev pub GoesThrough : Course → Standing → List Located → Course → Type 0
GoesThrough old standing [] new = new ≡ old
GoesThrough old standing (c ∷ cs) new =
    (next : Course) × (r : Replayed) × Replays old standing c.line (command c.command) next r × (r.stop ≡ false) × GoesThrough next r.standing cs new

-- the second state has the stack and the options of the first, whatever each has kept
pub record HaveOneStack (s t : State) : Type 0 where
  pub stack : t.stack ≡ s.stack
  pub options : t.options ≡ s.options

-- answers to some commands and those that follow are answers to the first ones, which lead to a state, and then, in that state, to
-- the others
pub record AnswersThrough (s : State) (number : ℕ) (first others : List Located) (ending : Ending) (kept : Evidence) (errors : List (ℕ × ℕ)) (lines : List (List ℕ)) (last : State) (count : ℕ) : Type 0 where
  pub first_kept : Evidence
  pub later_kept : Evidence
  pub first_errors : List (ℕ × ℕ)
  pub later_errors : List (ℕ × ℕ)
  pub first_lines : List (List ℕ)
  pub later_lines : List (List ℕ)
  pub leads : Leads s number first last count first_kept first_errors first_lines
  pub answers : Answers last count others ending later_kept later_errors later_lines
  pub kept_is : kept ≡ followed_by first_kept later_kept
  pub errors_are : errors ≡ first_errors ++ later_errors
  pub lines_are : lines ≡ first_lines ++ later_lines

-- what was read is a check, or awaits a verdict: a replay may go on after it where it is refused
abbrev pub is_undecided : Read → Bool
is_undecided read = is_check read || awaits_verdict read

-- the script ends at one of these commands, which is refused, and after which a replay may go on; these are its answers
abbrev pub EndsUndecided : State → ℕ → List Located → Evidence → List (ℕ × ℕ) → List (List ℕ) → Type 0
EndsUndecided s number [] kept errors lines = ⊥
EndsUndecided s number (c ∷ cs) kept errors lines =
    (e : CommandEffect) × (later_kept : Evidence) × (later_errors : List (ℕ × ℕ)) × (later_lines : List (List ℕ))
    × Step s number c.line c.command e × IsFollowed c.line e kept later_kept errors later_errors lines later_lines
    × MatchBool e.stop ((is_undecided (command c.command) ≡ true) × IsSilent later_kept later_errors later_lines)
    (EndsUndecided e.state (counted number c.command) cs later_kept later_errors later_lines)
