-- Checks, and questions about what the last verdict left.
use Rattle.std.proofs.Common.{◌≡◌, ◌∙◌, ℕ, List, [], ◌∷◌, ◌++◌, All, Option, None, Some, Ok, refl, sym, ap, subst, inl, inr}
use Rattle.std.specs.Global.{Vec}
use Rattle.std.proofs.lemmas.Option.{none-some}
use Rattle.ct_sexpr.specs.Expression.{Expression}
use Rattle.ct_sorts.specs.Declarations.{Declarations}
use Rattle.ct_kept.specs.Kept.{Stored}
use Rattle.ct_engine.specs.Keeping.{HasKept}
use Rattle.ct_eval.specs.declared.interp.Interp.{Interp}
use Rattle.ct_log.specs.Recorded.{Derived}
use Rattle.ct_model.specs.ModelText.{IsModelText}
use Rattle.ct_log_text.specs.Written.{expression_of_record, text_of}
use Rattle.ct_command.specs.Command.{Command, check_sat, check_sat_assuming, get_model, get_value, get_proof}
use Rattle.ct_engine.specs.declared.verdict.Verdict.{Verdict}
use Rattle.ct_stack.specs.Stack.{Stack, in_force, cores, declaring}
use Rattle.ct_stack.specs.declared.assuming.Assumption.{Assumption as Assumed}
use Rattle.ct_stack.specs.Assuming.{Assumption, assuming, assumptions_seen, IsTruth}
use Rattle.ct_stack.specs.Numbers.{too_many_terms}
use Rattle.ct_stack.proofs.AssumingLemmas.{truths_seen}
use Rattle.ct_stack.specs.Refusal.{IsTermsRefusal}
use Rattle.ct_stack.specs.Values.{AreValues}
use Rattle.ct_step.specs.declared.answer.Answer.{Answer}
use Rattle.ct_step.specs.declared.state.Asked.{Asked}
use Rattle.ct_step.specs.declared.state.SessionState.{SessionState}
use Rattle.ct_step.specs.declared.options.Options.{Options}
use Rattle.ct_step.specs.Options.{budget}
use Rattle.ct_step.specs.State.{State, Kept, with_declarations, model_kept, derivation_kept}
use Rattle.ct_step.specs.Evidence.{response_of, of_verdict, followed_by}
use Rattle.ct_step.specs.Refusal.{IsRefusal, IsCheckRefusal, IsAssumingRefusal, IsTooLarge}
use Rattle.ct_step.specs.Step.{Does, OfKept, said, decided, word_of}
use Rattle.ct_step.specs.Done.{IsAnswer, Performs, IsSame, IsSound, state_of, channel_in, evidence_of, kept_of}
use Rattle.ct_step.specs.Verdict.{ComesTo}
use Rattle.ct_step.specs.Assumed.{IsDecidedAssuming}
use Rattle.ct_step.specs.Numbers.{closure_too_large}
use Rattle.ct_step.specs.Store.{Stores}
use Rattle.ct_step.proofs.EvidenceLemmas.{both_same, nothing_later}
use Rattle.ct_step.proofs.SoundLemmas.{same_state, decided_sound}

-- a check has given a verdict
module _ (old new : SessionState) (number : ℕ) (v : Verdict) (assumed : Vec Assumed) (numbered : Option ℕ) (a : Answer) (same_stack : new.stack ≡ old.stack) (same_labels : new.labels.items ≡ old.labels.items) (same_options : new.options ≡ old.options) (same_channel : new.diagnostic_output ≡ old.diagnostic_output) (given : new.responses.items ≡ old.responses.items ++ response_of v ∷ []) (last : new.last ≡ Some v) (same_shrunk : new.shrunk ≡ old.shrunk) (kept : new.kept ≡ Some (record { assumed = assumed; number = numbered })) (answer : (s : State) → IsAnswer (said s (word_of v)) a) where
  given_state : state_of new ≡ (decided (state_of old) numbered (assumptions_seen assumed.items) v).state
  given_state =
      ap (λ (stack : Stack). record { stack = stack; labels = new.labels.items; options = new.options; diagnostic_output = channel_in new.diagnostic_output; kept = kept_of new.last new.kept }) same_stack
      ∙ ap (λ (labels : List (Option (List ℕ))). record { stack = old.stack; labels = labels; options = new.options; diagnostic_output = channel_in new.diagnostic_output; kept = kept_of new.last new.kept }) same_labels
      ∙ ap (λ (options : Options). record { stack = old.stack; labels = old.labels.items; options = options; diagnostic_output = channel_in new.diagnostic_output; kept = kept_of new.last new.kept }) same_options
      ∙ ap (λ (channel : Option (List ℕ)). record { stack = old.stack; labels = old.labels.items; options = old.options; diagnostic_output = channel_in channel; kept = kept_of new.last new.kept }) same_channel
      ∙ ap (λ (w : Option Verdict). record { stack = old.stack; labels = old.labels.items; options = old.options; diagnostic_output = channel_in old.diagnostic_output; kept = kept_of w new.kept }) last
      ∙ ap (λ (k : Option Asked). record { stack = old.stack; labels = old.labels.items; options = old.options; diagnostic_output = channel_in old.diagnostic_output; kept = kept_of (Some v) k }) kept

  given_evidence : evidence_of new ≡ followed_by (evidence_of old) (of_verdict v)
  given_evidence = both_same _ _ _ _ _ _ given last same_shrunk

  given_answer : (s : State) → IsAnswer (decided s numbered (assumptions_seen assumed.items) v) a
  given_answer s = record { text = (answer s).text; error = (answer s).error; stop = (answer s).stop }

  decides : (c : Command) → ((n : ℕ) → IsRefusal (state_of old) c n → ⊥) → Does (state_of old) number c (decided (state_of old) numbered (assumptions_seen assumed.items) v) → Performs old number c new a
  decides c accepted does =
      record {
        effect = decided (state_of old) numbered (assumptions_seen assumed.items) v;
        accepted = (accepted, does);
        state = given_state;
        given = given_evidence;
        answer = given_answer (state_of old);
      }

  -- of the assertions in force
  pub checked : assumed.items ≡ [] → numbered ≡ Some number → ComesTo old.stack.top.context (in_force old.stack) (budget old.options) v → ((n : ℕ) → IsCheckRefusal old.stack n → ⊥) → Performs old number check_sat new a
  checked none own right accepted =
      decides check_sat accepted
      (v, right, ap (λ (n : Option ℕ). decided (state_of old) n (assumptions_seen assumed.items) v) own ∙ ap (λ (as_held : List Assumed). decided (state_of old) (Some number) (assumptions_seen as_held) v) none)

-- a check has given a verdict on the assertions in force with what these terms assume
module _ (old new : SessionState) (ts : List Expression) (v : Verdict) (assumed : Vec Assumed) (a : Answer) (is : IsDecidedAssuming old.stack ts (budget old.options) new.stack assumed.items v) (same_labels : new.labels.items ≡ old.labels.items) (same_options : new.options ≡ old.options) (same_channel : new.diagnostic_output ≡ old.diagnostic_output) (given : new.responses.items ≡ old.responses.items ++ response_of v ∷ []) (last : new.last ≡ Some v) (same_shrunk : new.shrunk ≡ old.shrunk) (kept : new.kept ≡ Some (record { assumed = assumed; number = None })) (answer : (s : State) → IsAnswer (said s (word_of v)) a) where
  -- the sorts that the terms need, and what they assume
  abbrev later : Declarations
  later = is.assumes.later

  abbrev held : List Assumption
  held = assumptions_seen assumed.items

  -- the state with these sorts
  abbrev with_sorts : SessionState
  with_sorts = record old { stack = declaring old.stack later }

  new_state : state_of new ≡ (decided (with_declarations (state_of old) later) None held v).state
  new_state = given_state with_sorts new 0 v assumed None a is.assumes.stack_is same_labels same_options same_channel given last same_shrunk kept answer

  right : ComesTo (declaring old.stack later).top.context (assuming (declaring old.stack later) held) (budget old.options) v
  right = subst (λ (s : Stack). ComesTo s.top.context (assuming s held) (budget old.options) v) is.assumes.stack_is is.right

  pub checked_assuming : (number : ℕ) → ((n : ℕ) → IsAssumingRefusal old.stack ts n → ⊥) → Performs old number (check_sat_assuming ts) new a
  checked_assuming number accepted =
      record {
        effect = decided (with_declarations (state_of old) later) None held v;
        accepted = (accepted, (later, held, is.assumes.comes, (v, right, refl)));
        state = new_state;
        given = given_evidence with_sorts new number v assumed None a is.assumes.stack_is same_labels same_options same_channel given last same_shrunk kept answer;
        answer = given_answer with_sorts new number v assumed None a is.assumes.stack_is same_labels same_options same_channel given last same_shrunk kept answer (with_declarations (state_of old) later);
      }

  pub sound_assuming : IsSound (state_of new)
  sound_assuming =
      let fits : (n : ℕ) → IsTooLarge (declaring old.stack later) held n → ⊥ = subst (λ (s : Stack). (n : ℕ) → IsTooLarge s held n → ⊥) is.assumes.stack_is is.fits in
      let sorted = truths_seen later assumed.items (subst (λ (s : Stack). All (IsTruth s.top.context.declarations) assumed.items) is.assumes.stack_is is.sorted) in
      subst IsSound (sym new_state)
      (decided_sound (with_declarations (state_of old) later) held None (budget old.options) v sorted
      (λ many. fits closure_too_large (inr (λ more. fits too_many_terms (inl (refl, more)), inl (refl, many)))) right.right)

  -- the store is what the check made of it
  pub stored_assuming : (before after : Stored) → HasKept new.stack.top.context.declarations before after v → Stores (state_of old) (check_sat_assuming ts) new.last before after
  stored_assuming before after h = (
    later,
    held,
    is.assumes.comes,
    subst (λ (o : Option Verdict). OfKept o (HasKept later before after)) (sym last)
        (subst (λ (s : Stack). HasKept s.top.context.declarations before after v) is.assumes.stack_is h),
  )

module _ (old : SessionState) where
  abbrev kept : Option Kept
  kept = kept_of old.last old.kept

  -- what is kept is there
  there : {X : Type 0} (m : Option X) (x : X) → m ≡ Some x → m ≡ None → ⊥
  there m x stands e = none-some x (sym e ∙ stands)

  module _ (i : Interp) (stands : model_kept kept ≡ Some i) where
    -- the text of the model
    pub model_answered : (number : ℕ) (text : List ℕ) (a : Answer) → IsModelText old.stack.top.context.declarations i text → ((s : State) → IsAnswer (said s text) a) → Performs old number get_model old a
    model_answered number text a is answer =
        record {
          effect = said (state_of old) text;
          accepted = (λ n refusal. elim refusal [ inl first ↦ there (model_kept kept) i stands first.1 | inr later ↦ absurd later.1 ], subst (λ (m : Option Interp). OfKept m (λ i. (t : List ℕ) × IsModelText old.stack.top.context.declarations i t × (said (state_of old) text ≡ said (state_of old) t))) (sym stands) (text, is, refl));
          state = refl;
          given = sym (nothing_later (evidence_of old));
          answer = answer (state_of old);
        }

    -- the values of terms
    pub values_answered : (ts : List Expression) (new : SessionState) → IsSame old new → (number : ℕ) (text : List ℕ) (a : Answer) → ((n : ℕ) → IsTermsRefusal old.stack.top.context (cores old.stack.top.context (in_force old.stack)) ts n → ⊥) → AreValues old.stack.top.context i ts text → ((s : State) → IsAnswer (said s text) a) → Performs old number (get_value ts) new a
    values_answered ts new same number text a accepted are answer =
        record {
          effect = said (state_of old) text;
          accepted = (λ n refusal. elim refusal [ inl first ↦ there (model_kept kept) i stands first.1 | inr later ↦ accepted n later.1 ], subst (λ (m : Option Interp). OfKept m (λ i. (t : List ℕ) × AreValues old.stack.top.context i ts t × (said (state_of old) text ≡ said (state_of old) t))) (sym stands) (text, are, refl));
          state = same_state old new same;
          given = both_same _ _ _ _ _ _ same.responses same.last same.shrunk ∙ sym (nothing_later (evidence_of old));
          answer = answer (state_of old);
        }

  -- the text of the derivation
  pub derivation_answered : (p : ℕ × Derived) → derivation_kept kept ≡ Some p → (number : ℕ) (a : Answer) → ((s : State) → IsAnswer (said s (text_of (expression_of_record old.stack.top.context.declarations p.0 p.1.rec))) a) → Performs old number get_proof old a
  derivation_answered p stands number a answer =
      record {
        effect = said (state_of old) (text_of (expression_of_record old.stack.top.context.declarations p.0 p.1.rec));
        accepted = (λ n refusal. elim refusal [ inl first ↦ there (derivation_kept kept) p stands first.1 | inr later ↦ absurd later.1 ], subst (λ (m : Option (ℕ × Derived)). OfKept m (λ q. said (state_of old) (text_of (expression_of_record old.stack.top.context.declarations p.0 p.1.rec)) ≡ said (state_of old) (text_of (expression_of_record old.stack.top.context.declarations q.0 q.1.rec)))) (sym stands) refl);
        state = refl;
        given = sym (nothing_later (evidence_of old));
        answer = answer (state_of old);
      }
