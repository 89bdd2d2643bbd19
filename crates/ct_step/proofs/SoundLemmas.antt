-- What a session always holds: what is kept is of what is declared.
use Rattle.std.proofs.Common.{◌≡◌, ◌∙◌, ℕ, Bool, true, false, true≢false, List, [], All, Option, None, Some, Result, Ok, Err, OnOk, refl, sym, ap, subst, inl, inr}
use Rattle.std.specs.Bool.{MatchBool}
use Rattle.std.proofs.lemmas.List.{append-nil}
use Rattle.std.proofs.lemmas.List.Elements.{All-nil}
use Rattle.std.proofs.lemmas.Option.{none-some, same_Some}
use Rattle.ct_sexpr.specs.Written.{written}
use Rattle.ct_sorts.specs.Declarations.{Declarations, bool_sort, with_function}
use Rattle.ct_eval.specs.declared.interp.Interp.{Interp}
use Rattle.ct_eval.specs.Interpretation.{IsProper}
use Rattle.ct_log.specs.Recorded.{Derived}
use Rattle.ct_model.specs.ModelText.{IsModelText}
use Rattle.ct_log_text.specs.Written.{expression_of_record, text_of}
use Rattle.ct_names.specs.Needs.{ComesTo as ComesToOutcome}
use Rattle.ct_names.specs.Outcome.{Outcome, Elaborated}
use Rattle.ct_command.specs.declared.error.CommandError.{CommandError}
use Rattle.ct_command.specs.declared.error.CommandError.TheVariants.{Refused, NoMemory}
use Rattle.ct_command.specs.Command.{Command, set_logic, set_option, set_diagnostic_output, get_option, set_info, get_info, declare_sort, define_sort, declare_block, declare_fun, define_fun, assert, check_sat, check_sat_assuming, push, pop, reset_assertions, reset, get_model, get_value, get_proof, get_unsat_core, get_unsat_assumptions, echo, exit, unsupported}
use Rattle.ct_engine.specs.declared.verdict.Verdict.{Verdict}
use Rattle.ct_engine.specs.declared.verdict.Verdict.TheVariants.{Sat, Unsat, Unknown}
use Rattle.ct_stack.specs.Stack.{Stack, Context, in_force, cores, declaring, in_context, defined_in}
use Rattle.ct_stack.specs.Assuming.{Assumption}
use Rattle.ct_stack.specs.Outcomes.{Gives, GivesNeeding}
use Rattle.ct_stack.specs.Elaborations.{synonym_body, with_synonym_of, declared_function, defined_function, asserted_formula}
use Rattle.ct_stack.specs.Refusal.{over}
use Rattle.ct_stack.specs.Values.{AreValues}
use Rattle.ct_formulas.specs.Formula.{Formula}
use Rattle.ct_formulas.specs.FormulaSorts.{IsSorted}
use Rattle.ct_closure.specs.Closed.{HasMoreThan, most_closure_terms}
use Rattle.ct_shrink.specs.declared.shrunk.Shrunk.{Shrunk}
use Rattle.ct_step.specs.declared.answer.Answer.{Answer}
use Rattle.ct_step.specs.declared.state.Asked.{Asked}
use Rattle.ct_step.specs.declared.state.SessionState.{SessionState}
use Rattle.ct_step.specs.declared.options.Options.{Options}
use Rattle.ct_step.specs.Options.{budget, with_setting}
use Rattle.ct_step.specs.Numbers.{closure_too_large}
use Rattle.ct_step.specs.declared.cores.Members.{Members}
use Rattle.ct_step.specs.declared.cores.Members.TheVariants as members
use Rattle.ct_step.specs.Evidence.{Evidence, no_evidence, of_core}
use Rattle.ct_step.specs.Cores.{IsShrunkTo, core_text}
use Rattle.ct_step.specs.Refusal.{IsRefusal}
use Rattle.ct_step.specs.State.{State, Kept, Refuted, context_of, declared, changed, asserted, model_kept, derivation_kept, refuted_kept, assuming_kept, asked}
use Rattle.ct_step.specs.Step.{CommandEffect, Does, OfKept, PrintsCore, quiet, said, decided}
use Rattle.ct_step.specs.Done.{KeepsOwn, WasAsked, IsSound, IsSame, IsDone, state_of, channel_in, kept_of}
use Rattle.ct_step.specs.Verdict.{ComesTo, Refutes, IsRight}

-- where nothing is kept
pub nothing_kept : (d : Declarations) → KeepsOwn d None
nothing_kept d = record { proper = λ i e. absurd (none-some i e); derived = λ p e. absurd (none-some p e) }

-- nor of a state in which nothing is kept
pub unkept : (s : State) → s.kept ≡ None → IsSound s
unkept s none =
    record {
      own = subst (KeepsOwn (declared s)) (sym none) (nothing_kept (declared s));
      was_asked = λ kept e. absurd (none-some kept (sym none ∙ e));
    }

-- a verdict as it is kept
abbrev keeping : List Assumption → Option ℕ → Verdict → Kept
keeping assumed number v = record { verdict = v; assumed = assumed; number = number }

-- what a right verdict leaves
module _ (c : Context) (asserts : List Formula) (budget : ℕ) (assumed : List Assumption) where
  model_right : (m : Interp) (number : Option ℕ) → IsRight c asserts budget (Sat m) → (i : Interp) → model_kept (Some (keeping assumed number (Sat m))) ≡ Some i → IsProper c.declarations i
  model_right m number right i e = subst (IsProper c.declarations) (same_Some m i e) right.proper

  right_kept : (number : Option ℕ) (v : Verdict) → IsRight c asserts budget v → KeepsOwn c.declarations (Some (keeping assumed number v))
  right_kept (Some n) (Sat m) right = record { proper = model_right m (Some n) right; derived = λ p e. absurd (none-some p e) }
  right_kept None (Sat m) right = record { proper = model_right m None right; derived = λ p e. absurd (none-some p e) }
  right_kept (Some n) (Unsat d) right =
      record {
        proper = λ i e. absurd (none-some i e);
        derived = λ p e. ap (λ (q : ℕ × Derived). q.1.declarations) (sym (same_Some (n, d) p e)) ∙ right.declarations;
      }
  right_kept None (Unsat d) right = record { proper = λ i e. absurd (none-some i e); derived = λ p e. absurd (none-some p e) }
  right_kept (Some n) (Unknown spent) right = record { proper = λ i e. absurd (none-some i e); derived = λ p e. absurd (none-some p e) }
  right_kept None (Unknown spent) right = record { proper = λ i e. absurd (none-some i e); derived = λ p e. absurd (none-some p e) }

  right_refutes : (number : Option ℕ) (v : Verdict) → IsRight c asserts budget v → (refuted : Refuted) → refuted_kept (Some (keeping assumed number v)) ≡ Some refuted → Refutes c asserts refuted.derived
  right_refutes number (Sat m) right refuted e = absurd (none-some refuted e)
  right_refutes number (Unsat d) right refuted e =
      let own : Refuted = record { derived = d; assumed = assumed } in
      subst (λ (x : Refuted). Refutes c asserts x.derived) (same_Some own refuted e) right
  right_refutes number (Unknown spent) right refuted e = absurd (none-some refuted e)

-- a state that keeps a right verdict on what was asked
abbrev keeps : State → List Assumption → Option ℕ → Verdict → State
keeps s assumed number v = record s { kept = Some (keeping assumed number v) }

pub decided_sound : (s : State) (assumed : List Assumption) (number : Option ℕ) (budget : ℕ) (v : Verdict) → All (λ (a : Assumption). IsSorted (declared s) [] a.formula bool_sort) assumed → (HasMoreThan (declared s) (cores (context_of s) (asked s assumed)) most_closure_terms → ⊥) → IsRight (context_of s) (asked s assumed) budget v → IsSound (keeps s assumed number v)
decided_sound s assumed number budget v sorted fits right =
    record {
      own = right_kept (context_of s) (asked s assumed) budget assumed number v right;
      was_asked = λ kept e.
          subst (WasAsked (keeps s assumed number v)) (same_Some (keeping assumed number v) kept e)
          (record { sorted = sorted; fits = fits; refutes = right_refutes (context_of s) (asked s assumed) budget assumed number v right });
    }

-- where the options alone are others, the same is held
other_options : (s : State) (options : Options) → IsSound s → IsSound (record s { options = options })
other_options s options sound =
    record {
      own = sound.own;
      was_asked = λ kept e. let was = sound.was_asked kept e in record { sorted = was.sorted; fits = was.fits; refutes = was.refutes };
    }

-- and where the diagnostic channel is another
other_channel : (s : State) (text : List ℕ) → IsSound s → IsSound (record s { diagnostic_output = text })
other_channel s text sound =
    record {
      own = sound.own;
      was_asked = λ kept e. let was = sound.was_asked kept e in record { sorted = was.sorted; fits = was.fits; refutes = was.refutes };
    }

pub only : {X : Type 0} (o : Outcome X) (P : X → Type 0) (Q : Type 0) → ((x : X) → P x → Q) → Gives o P → Q
only (Ok x) P Q more h = more x h
only (Err n) P Q more h = absurd h

pub only_needing : {X : Type 0} (f : Declarations → Elaborated X) (d : Declarations) (P : Declarations → X → Type 0) (Q : Type 0) → ((later : Declarations) (x : X) → ComesToOutcome f d later (Ok x) → P later x → Q) → GivesNeeding f d P → Q
only_needing f d P Q more (later, x, comes, h) = more later x comes h

pub only_of : {X : Type 0} (m : Option X) (P : X → Type 0) (Q : Type 0) → ((x : X) → P x → Q) → OfKept m P → Q
only_of (Some x) P Q more h = more x h
only_of None P Q more h = absurd h

module _ (s : State) (e : CommandEffect) where
  -- the state that is left is this one
  left : (t : CommandEffect) → e ≡ t → IsSound t.state → IsSound e.state
  left t is sound = subst (λ (x : CommandEffect). IsSound x.state) (sym is) sound

  -- a change of the stack
  change : (stack : Stack) → e ≡ quiet (changed s stack) → IsSound e.state
  change stack is = left (quiet (changed s stack)) is (unkept (changed s stack) refl)

  -- a check that is accepted, and one with assumptions
  checked : (number : ℕ) → ((n : ℕ) → IsRefusal s check_sat n → ⊥) → (v : Verdict) × ComesTo (context_of s) (in_force s.stack) (budget s.options) v × (e ≡ decided s (Some number) [] v) → IsSound e.state
  checked number accepted (v, comes, is) =
      let alone : asked s [] ≡ in_force s.stack = append-nil (in_force s.stack) in
      left (decided s (Some number) [] v) is
      (decided_sound s [] (Some number) (budget s.options) v (All-nil (λ (a : Assumption). IsSorted (declared s) [] a.formula bool_sort))
      (λ many. accepted closure_too_large (inl (refl, subst (λ (ts : List Formula). HasMoreThan (declared s) (cores (context_of s) ts) most_closure_terms) alone many)))
      (subst (λ (ts : List Formula). IsRight (context_of s) ts (budget s.options) v) (sym alone) comes.right))

-- a core that is printed: the effect is that of a text, and of what is kept of it
pub prints : (s : State) (m : Members) (refuted : Refuted) (e : CommandEffect) (Q : Type 0) → ((text : List ℕ) (kept : Evidence) → e ≡ record (said s text) { evidence = kept } → Q) → PrintsCore s m refuted e → Q
prints s m refuted e Q more (places, core, printed) = by s.options.minimal_unsat_cores printed
  where
    by : (minimal : Bool)
        → MatchBool minimal
        ((shrunk : Shrunk) × IsShrunkTo (context_of s) (asked s refuted.assumed) (budget s.options) places shrunk
        × (e ≡ record (said s (core_text m s refuted.assumed shrunk.core.places.items)) { evidence = of_core shrunk }))
        (e ≡ said s (core_text m s refuted.assumed places))
        → Q
    by true (shrunk, to, is) = more (core_text m s refuted.assumed shrunk.core.places.items) (of_core shrunk) is
    by false is = more (core_text m s refuted.assumed places) no_evidence is

-- the command is a check with assumptions
abbrev pub is_assuming : Command → Bool
is_assuming (check_sat_assuming ts) = true
is_assuming c = false

-- every other command that is accepted leaves what a session holds
pub sound_after : (s : State) (number : ℕ) (c : Command) (e : CommandEffect) → is_assuming c ≡ false → IsSound s → ((n : ℕ) → IsRefusal s c n → ⊥) → Does s number c e → IsSound e.state
sound_after s number (set_logic name) e other sound accepted is = left s e _ is sound
sound_after s number (set_option setting) e other sound accepted is = left s e (quiet (record s { options = with_setting s.options setting })) is (other_options s (with_setting s.options setting) sound)
sound_after s number (set_diagnostic_output text) e other sound accepted is = left s e (quiet (record s { diagnostic_output = written text })) is (other_channel s (written text) sound)
sound_after s number (get_option option) e other sound accepted is = left s e _ is sound
sound_after s number set_info e other sound accepted is = left s e _ is sound
sound_after s number (get_info info) e other sound accepted is = left s e _ is sound
sound_after s number (declare_sort name params) e other sound accepted is = change s e _ is
sound_after s number (define_sort name params body) e other sound accepted is = only (synonym_body (declared s) params body) (λ sort. e ≡ quiet (changed s (declaring s.stack (with_synonym_of (declared s) name params sort)))) (IsSound e.state) (λ sort h. change s e (declaring s.stack (with_synonym_of (declared s) name params sort)) h) is
sound_after s number (declare_block family heads bodies) e other sound accepted is = change s e (declaring s.stack is.0) is.2
sound_after s number (declare_fun name args sort) e other sound accepted is = only_needing (λ d. declared_function d name args sort) (declared s) (λ later f. e ≡ quiet (changed s (declaring s.stack (with_function later f)))) (IsSound e.state) (λ later f comes h. change s e (declaring s.stack (with_function later f)) h) is
sound_after s number (define_fun name params sort t) e other sound accepted is = only_needing (λ d. defined_function d name params sort t) (declared s) (λ later f. e ≡ quiet (changed s (in_context s.stack (defined_in (over (context_of s) later) f)))) (IsSound e.state) (λ later f comes h. change s e (in_context s.stack (defined_in (over (context_of s) later) f)) h) is
sound_after s number (assert t label) e other sound accepted is = only_needing (λ d. asserted_formula d t) (declared s) (λ later formula. e ≡ quiet (asserted s (declaring s.stack later) label formula)) (IsSound e.state) (λ later formula comes h. left s e (quiet (asserted s (declaring s.stack later) label formula)) h (unkept (asserted s (declaring s.stack later) label formula) refl)) is
sound_after s number check_sat e other sound accepted is = checked s e number accepted is
sound_after s number (check_sat_assuming ts) e other sound accepted is = absurd (true≢false other)
sound_after s number (push n) e other sound accepted is = change s e _ is
sound_after s number (pop n) e other sound accepted is = left s e _ is (unkept _ refl)
sound_after s number reset_assertions e other sound accepted is = left s e _ is (unkept _ refl)
sound_after s number reset e other sound accepted is = left s e _ is (unkept _ refl)
sound_after s number get_model e other sound accepted is = only_of (model_kept s.kept) (λ i. (text : List ℕ) × IsModelText (declared s) i text × (e ≡ said s text)) (IsSound e.state) (λ i h. left s e (said s h.0) h.2 sound) is
sound_after s number (get_value ts) e other sound accepted is = only_of (model_kept s.kept) (λ i. (text : List ℕ) × AreValues (context_of s) i ts text × (e ≡ said s text)) (IsSound e.state) (λ i h. left s e (said s h.0) h.2 sound) is
sound_after s number get_proof e other sound accepted is = only_of (derivation_kept s.kept) (λ p. e ≡ said s (text_of (expression_of_record (declared s) p.0 p.1.rec))) (IsSound e.state) (λ p h. left s e (said s (text_of (expression_of_record (declared s) p.0 p.1.rec))) h sound) is
sound_after s number get_unsat_core e other sound accepted is = only_of (refuted_kept s.kept) (λ refuted. PrintsCore s members.Names refuted e) (IsSound e.state) (λ refuted h. prints s members.Names refuted e (IsSound e.state) (λ text kept printed. left s e (record (said s text) { evidence = kept }) printed sound) h) is
sound_after s number get_unsat_assumptions e other sound accepted is = only_of (assuming_kept s.kept) (λ refuted. PrintsCore s members.Assumptions refuted e) (IsSound e.state) (λ refuted h. prints s members.Assumptions refuted e (IsSound e.state) (λ text kept printed. left s e (record (said s text) { evidence = kept }) printed sound) h) is
sound_after s number (echo x) e other sound accepted is = left s e _ is sound
sound_after s number exit e other sound accepted is = left s e _ is sound
sound_after s number unsupported e other sound accepted is = left s e _ is sound

-- where nothing has changed the state is the same
pub same_state : (old new : SessionState) → IsSame old new → state_of new ≡ state_of old
same_state old new is =
    ap (λ (stack : Stack). record { stack = stack; labels = new.labels.items; options = new.options; diagnostic_output = channel_in new.diagnostic_output; kept = kept_of new.last new.kept }) is.stack
    ∙ ap (λ (labels : List (Option (List ℕ))). record { stack = old.stack; labels = labels; options = new.options; diagnostic_output = channel_in new.diagnostic_output; kept = kept_of new.last new.kept }) is.labels
    ∙ ap (λ (options : Options). record { stack = old.stack; labels = old.labels.items; options = options; diagnostic_output = channel_in new.diagnostic_output; kept = kept_of new.last new.kept }) is.options
    ∙ ap (λ (channel : Option (List ℕ)). record { stack = old.stack; labels = old.labels.items; options = old.options; diagnostic_output = channel_in channel; kept = kept_of new.last new.kept }) is.diagnostic_output
    ∙ ap (λ (last : Option Verdict). record { stack = old.stack; labels = old.labels.items; options = old.options; diagnostic_output = channel_in old.diagnostic_output; kept = kept_of last new.kept }) is.last
    ∙ ap (λ (kept : Option Asked). record { stack = old.stack; labels = old.labels.items; options = old.options; diagnostic_output = channel_in old.diagnostic_output; kept = kept_of old.last kept }) is.kept

-- whatever becomes of a command
pub sound_still : (old new : SessionState) (number : ℕ) (c : Command) (r : Result Answer CommandError) → is_assuming c ≡ false → IsDone old number c new r → IsSound (state_of old) → IsSound (state_of new)
sound_still old new number c (Ok a) other done sound = subst IsSound (sym done.state) (sound_after (state_of old) number c done.effect other sound done.accepted.0 done.accepted.1)
sound_still old new number c (Err (Refused n)) other done sound = subst IsSound (sym (same_state old new done.1)) sound
sound_still old new number c (Err NoMemory) other done sound = subst IsSound (sym (same_state old new done)) sound

-- and so of a check with assumptions, which says so itself
pub sound_where : (old new : SessionState) (number : ℕ) (c : Command) (r : Result Answer CommandError) → OnOk r (IsSound (state_of new)) → IsDone old number c new r → IsSound (state_of old) → IsSound (state_of new)
sound_where old new number c (Ok a) own done sound = own
sound_where old new number c (Err (Refused n)) own done sound = subst IsSound (sym (same_state old new done.1)) sound
sound_where old new number c (Err NoMemory) own done sound = subst IsSound (sym (same_state old new done)) sound
