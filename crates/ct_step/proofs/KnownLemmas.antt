-- What is known of values in the model that stands: a command that only asks leaves the state as it was.
use Rattle.std.proofs.Common.{◌≡◌, ◌∙◌, ℕ, Bool, true, false, List, Option, None, Some, Result, Ok, Err, IfSome, if◌then◌else◌, sym, subst}
use Rattle.std.proofs.lemmas.Option.{same_Some}
use Rattle.ct_eval.specs.declared.interp.Interp.{Interp}
use Rattle.ct_model.specs.ModelText.{IsModelText}
use Rattle.ct_log_text.specs.Written.{expression_of_record, text_of}
use Rattle.ct_command.specs.declared.error.CommandError.{CommandError}
use Rattle.ct_command.specs.declared.error.CommandError.TheVariants.{Refused, NoMemory}
use Rattle.ct_command.specs.Command.{Command, set_logic, set_option, set_diagnostic_output, get_option, set_info, get_info, declare_sort, define_sort, declare_block, declare_fun, define_fun, assert, check_sat, check_sat_assuming, push, pop, reset_assertions, reset, get_model, get_value, get_proof, get_unsat_core, get_unsat_assumptions, echo, exit, unsupported}
use Rattle.ct_stack.specs.Values.{AreValues}
use Rattle.ct_stack.specs.declared.model_values.ModelValues.{ModelValues}
use Rattle.ct_stack.specs.ModelValues.{AreModelValues}
use Rattle.ct_step.specs.declared.answer.Answer.{Answer}
use Rattle.ct_step.specs.declared.state.SessionState.{SessionState}
use Rattle.ct_step.specs.State.{State, context_of, declared, model_kept, derivation_kept, refuted_kept, assuming_kept}
use Rattle.ct_step.specs.Step.{CommandEffect, Does, PrintsCore, said}
use Rattle.ct_step.specs.declared.cores.Members.TheVariants as members
use Rattle.ct_step.specs.Evidence.{Evidence}
use Rattle.ct_step.specs.Done.{IsDone, state_of}
use Rattle.ct_step.specs.Known.{AreKnown, only_asks}
use Rattle.ct_step.proofs.SoundLemmas.{only_of, prints, same_state}

-- nothing is known of any model
forgotten : (s : State) → AreKnown s None
forgotten s = λ i stands. tt

-- what is known in the model that stands
pub known_in : (s : State) (known : Option ModelValues) (i : Interp) → model_kept s.kept ≡ Some i → IfSome known (AreModelValues (declared s) i) → AreKnown s known
known_in s known i stands right j other =
    subst (λ (k : Interp). IfSome known (AreModelValues (declared s) k)) (same_Some i j (sym stands ∙ other)) right

-- what is known may be forgotten
or_forgotten : (asks : Bool) (s : State) (known : Option ModelValues) → AreKnown s known → AreKnown s (if asks then known else None)
or_forgotten true s known right = right
or_forgotten false s known right = forgotten s

module _ (s : State) (known : Option ModelValues) (right : AreKnown s known) (e : CommandEffect) where
  -- the state that is left is this one
  left : (text : List ℕ) → e ≡ said s text → AreKnown e.state known
  left text is = subst (λ (x : CommandEffect). AreKnown x.state known) (sym is) right

  left_with : (text : List ℕ) (kept : Evidence) → e ≡ record (said s text) { evidence = kept } → AreKnown e.state known
  left_with text kept is = subst (λ (x : CommandEffect). AreKnown x.state known) (sym is) right

  -- an accepted command leaves it known, or it is forgotten
  known_after : (number : ℕ) (c : Command) → Does s number c e → AreKnown e.state (if only_asks c then known else None)
  known_after number (set_logic name) is = forgotten e.state
  known_after number (set_option setting) is = forgotten e.state
  known_after number (set_diagnostic_output text) is = forgotten e.state
  known_after number (get_option option) is = left _ is
  known_after number set_info is = forgotten e.state
  known_after number (get_info info) is = left _ is
  known_after number (declare_sort name params) is = forgotten e.state
  known_after number (define_sort name params body) is = forgotten e.state
  known_after number (declare_block family heads bodies) is = forgotten e.state
  known_after number (declare_fun name args sort) is = forgotten e.state
  known_after number (define_fun name params sort t) is = forgotten e.state
  known_after number (assert t label) is = forgotten e.state
  known_after number check_sat is = forgotten e.state
  known_after number (check_sat_assuming ls) is = forgotten e.state
  known_after number (push n) is = forgotten e.state
  known_after number (pop n) is = forgotten e.state
  known_after number reset_assertions is = forgotten e.state
  known_after number reset is = forgotten e.state
  known_after number get_model is =
      only_of (model_kept s.kept) (λ i. (text : List ℕ) × IsModelText (declared s) i text × (e ≡ said s text)) (AreKnown e.state known) (λ i h. left h.0 h.2) is
  known_after number (get_value ts) is =
      only_of (model_kept s.kept) (λ i. (text : List ℕ) × AreValues (context_of s) i ts text × (e ≡ said s text)) (AreKnown e.state known) (λ i h. left h.0 h.2) is
  known_after number get_proof is =
      only_of (derivation_kept s.kept) (λ p. e ≡ said s (text_of (expression_of_record (declared s) p.0 p.1.rec))) (AreKnown e.state known) (λ p h. left (text_of (expression_of_record (declared s) p.0 p.1.rec)) h) is
  known_after number get_unsat_core is =
      only_of (refuted_kept s.kept) (λ refuted. PrintsCore s members.Names refuted e) (AreKnown e.state known) (λ refuted h. prints s members.Names refuted e (AreKnown e.state known) left_with h) is
  known_after number get_unsat_assumptions is =
      only_of (assuming_kept s.kept) (λ refuted. PrintsCore s members.Assumptions refuted e) (AreKnown e.state known) (λ refuted h. prints s members.Assumptions refuted e (AreKnown e.state known) left_with h) is
  known_after number (echo x) is = left _ is
  known_after number exit is = forgotten e.state
  known_after number unsupported is = forgotten e.state

-- whatever becomes of a command
pub known_still : (old new : SessionState) (number : ℕ) (c : Command) (r : Result Answer CommandError) (known : Option ModelValues) → IsDone old number c new r → AreKnown (state_of old) known → AreKnown (state_of new) (if only_asks c then known else None)
known_still old new number c (Ok a) known done right =
    subst (λ (s : State). AreKnown s (if only_asks c then known else None)) (sym done.state) (known_after (state_of old) known right done.effect number c done.accepted.1)
known_still old new number c (Err (Refused n)) known done right =
    or_forgotten (only_asks c) (state_of new) known (subst (λ (s : State). AreKnown s known) (sym (same_state old new done.1)) right)
known_still old new number c (Err NoMemory) known done right =
    or_forgotten (only_asks c) (state_of new) known (subst (λ (s : State). AreKnown s known) (sym (same_state old new done)) right)
