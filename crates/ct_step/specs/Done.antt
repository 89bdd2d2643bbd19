-- What a session stores, and what becomes of a command: it is done, or refused, or memory runs out.
use Rattle.std.specs.Prelude.{◌≡◌, ℕ, Bool, false, List, [], All, Option, None, Some, is_none, Result, Ok, Err, option_map}
use Rattle.std.specs.Borrow.{Bor}
use Rattle.ct_sorts.specs.Declarations.{Declarations, bool_sort}
use Rattle.ct_formulas.specs.FormulaSorts.{IsSorted}
use Rattle.ct_closure.specs.Closed.{HasMoreThan, most_closure_terms}
use Rattle.ct_log.specs.Recorded.{Derived}
use Rattle.ct_eval.specs.declared.interp.Interp.{Interp}
use Rattle.ct_eval.specs.Interpretation.{IsProper}
use Rattle.ct_engine.specs.declared.verdict.Verdict.{Verdict}
use Rattle.ct_command.specs.declared.error.CommandError.{CommandError}
use Rattle.ct_command.specs.declared.error.CommandError.TheVariants.{Refused, NoMemory}
use Rattle.ct_command.specs.Command.{Command}
use Rattle.ct_step.specs.declared.answer.Answer.{Answer}
use Rattle.ct_stack.specs.Stack.{cores}
use Rattle.ct_stack.specs.declared.assuming.Assumption.{Assumption as Assumed}
use Rattle.ct_stack.specs.Assuming.{Assumption, assumptions_seen}
use Rattle.ct_step.specs.declared.state.Asked.{Asked}
use Rattle.ct_step.specs.declared.state.SessionState.{SessionState}
use Rattle.ct_step.specs.Options.{standard_error}
use Rattle.ct_step.specs.Evidence.{Evidence, evidence, followed_by}
use Rattle.ct_step.specs.State.{State, Kept, Refuted, context_of, declared, model_kept, derivation_kept, refuted_kept, asked}
use Rattle.ct_step.specs.Verdict.{Refutes}
use Rattle.ct_step.specs.Refusal.{IsRefusal}
use Rattle.ct_step.specs.Step.{CommandEffect, IsAccepted}

-- what is kept of the last verdict, where it stands, by what its check was asked
abbrev pub kept_of : Option Verdict → Option Asked → Option Kept
kept_of last None = None
kept_of last (Some a) = option_map (λ v. record { verdict = v; assumed = assumptions_seen a.assumed.items; number = a.number }) last

-- the diagnostic channel, which is the first one where none was set
abbrev pub channel_in : Option (List ℕ) → List ℕ
channel_in None = standard_error
channel_in (Some text) = text

abbrev pub state_of : SessionState → State
state_of s = record { stack = s.stack; labels = s.labels.items; options = s.options; diagnostic_output = channel_in s.diagnostic_output; kept = kept_of s.last s.kept }

-- what is kept of all answers so far
abbrev pub evidence_of : SessionState → Evidence
evidence_of s = evidence s.responses.items s.last s.shrunk

-- what is kept is of what is declared: the model is proper, and the derivation is over the declarations
pub record KeepsOwn (d : Declarations) (kept : Option Kept) : Type 0 where
  pub proper : (i : Interp) → model_kept kept ≡ Some i → IsProper d i
  pub derived : (derivation : ℕ × Derived) → derivation_kept kept ≡ Some derivation → derivation.1.declarations ≡ d

-- what was asked is of what is declared and asserted: the assumptions are well sorted and Boolean, the closure was not too large, and
-- the derivation refutes the assertions in force with the assumptions
pub record WasAsked (s : State) (kept : Kept) : Type 0 where
  pub sorted : All (λ (a : Assumption). IsSorted (declared s) [] a.formula bool_sort) kept.assumed
  pub fits : HasMoreThan (declared s) (cores (context_of s) (asked s kept.assumed)) most_closure_terms → ⊥
  pub refutes : (refuted : Refuted) → refuted_kept (Some kept) ≡ Some refuted → Refutes (context_of s) (asked s kept.assumed) refuted.derived

-- what a session always holds
pub record IsSound (s : State) : Type 0 where
  pub own : KeepsOwn (declared s) s.kept
  pub was_asked : (kept : Kept) → s.kept ≡ Some kept → WasAsked s kept

-- the interpretation that is lent, where there is one
abbrev pub interp_seen : Option (Bor Interp) → Option Interp
interp_seen o = option_map (λ (b : Bor Interp). b.now) o

-- the derivation that is lent, where there is one
abbrev pub derived_seen : Option (Bor Derived) → Option Derived
derived_seen o = option_map (λ (b : Bor Derived). b.now) o

-- the number of what was asked, where there is one
abbrev pub number_in : Option Asked → Option ℕ
number_in None = None
number_in (Some a) = a.number

-- what was assumed, where something was asked
abbrev pub assumed_in : Option Asked → List Assumed
assumed_in None = []
assumed_in (Some a) = a.assumed.items

-- a check with assumptions was asked
abbrev pub is_of_assumptions : Option Asked → Bool
is_of_assumptions None = false
is_of_assumptions (Some a) = is_none a.number

-- the derivation that is lent with the number of its check, where there is one
abbrev pub derivation_seen : Option (ℕ × Bor Derived) → Option (ℕ × Derived)
derivation_seen o = option_map (λ (p : ℕ × Bor Derived). (p.0, p.1.now)) o

-- the answer is that of the effect
pub record IsAnswer (e : CommandEffect) (a : Answer) : Type 0 where
  pub text : a.text.items ≡ e.text
  pub error : a.error ≡ e.error
  pub stop : a.stop ≡ e.stop

-- the command is accepted, does this, and is answered so
pub record Performs (old : SessionState) (number : ℕ) (c : Command) (new : SessionState) (a : Answer) : Type 0 where
  pub effect : CommandEffect
  pub accepted : IsAccepted (state_of old) number c effect
  pub state : state_of new ≡ effect.state
  pub given : evidence_of new ≡ followed_by (evidence_of old) effect.evidence
  pub answer : IsAnswer effect a

-- nothing has changed
pub record IsSame (old new : SessionState) : Type 0 where
  pub stack : new.stack ≡ old.stack
  pub labels : new.labels.items ≡ old.labels.items
  pub options : new.options ≡ old.options
  pub diagnostic_output : new.diagnostic_output ≡ old.diagnostic_output
  pub responses : new.responses.items ≡ old.responses.items
  pub last : new.last ≡ old.last
  pub shrunk : new.shrunk ≡ old.shrunk
  pub kept : new.kept ≡ old.kept

-- what becomes of a command, which is the check of this number if it is a check: it is done, or it is refused or memory runs out,
-- and then nothing has changed
abbrev pub IsDone : SessionState → ℕ → Command → SessionState → Result Answer CommandError → Type 0
IsDone old number c new (Ok a) = Performs old number c new a
IsDone old number c new (Err (Refused n)) = IsRefusal (state_of old) c n × IsSame old new
IsDone old number c new (Err NoMemory) = IsSame old new
