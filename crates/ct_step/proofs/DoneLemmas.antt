-- What becomes of a command: it is done, or refused, or memory runs out.
use Rattle.std.proofs.Common.{◌≡◌, ◌∙◌, ℕ, true, List, [], ◌∷◌, ◌++◌, length, take, Option, None, Some, Result, Ok, Err, IsErrOf, refl, sym, ap, subst}
use Rattle.std.specs.Global.{Vec}
use Rattle.ct_sexpr.specs.Expression.{Expression}
use Rattle.ct_sexpr.specs.Written.{written}
use Rattle.ct_sorts.specs.Declarations.{Declarations}
use Rattle.ct_formulas.specs.Formula.{Formula}
use Rattle.ct_names.specs.Outcome.{Outcome, Elaborated}
use Rattle.ct_command.specs.declared.error.CommandError.{CommandError}
use Rattle.ct_command.specs.declared.error.CommandError.TheVariants.{Refused, NoMemory}
use Rattle.ct_command.specs.declared.command.Command.{Command as ReadCommand}
use Rattle.ct_command.specs.declared.option.Setting.{Setting}
use Rattle.ct_command.specs.Seen.{command_seen}
use Rattle.ct_command.specs.Command.{Command, set_option, set_diagnostic_output, reset, exit}
use Rattle.ct_stack.specs.Stack.{Stack, first_stack, in_force, asserting_as}
use Rattle.ct_stack.specs.Outcomes.{Gives, GivesNeeding}
use Rattle.ct_step.specs.declared.answer.Answer.{Answer}
use Rattle.ct_step.specs.declared.response.CheckResponse.{CheckResponse}
use Rattle.ct_step.specs.declared.state.SessionState.{SessionState}
use Rattle.ct_step.specs.declared.options.Options.{Options}
use Rattle.ct_step.specs.Options.{first_options, with_setting, standard_error}
use Rattle.ct_step.specs.State.{State, starting, changed, cut_back, asserted}
use Rattle.ct_step.specs.Refusal.{IsRefusal}
use Rattle.ct_step.specs.Step.{Does, said, quiet, success}
use Rattle.ct_step.specs.Done.{IsAnswer, Performs, IsSame, IsDone, state_of, channel_in, evidence_of}
use Rattle.ct_step.proofs.EvidenceLemmas.{nothing_later}

-- what holds of a value holds where more follows from it
pub Gives-map : {X : Type 0} (o : Outcome X) (P Q : X → Type 0) → ((x : X) → P x → Q x) → Gives o P → Gives o Q
Gives-map (Ok x) P Q more h = more x h
Gives-map (Err n) P Q more h = absurd h

pub needing_map : {X : Type 0} (f : Declarations → Elaborated X) (d : Declarations) (P Q : Declarations → X → Type 0) → ((later : Declarations) (x : X) → P later x → Q later x) → GivesNeeding f d P → GivesNeeding f d Q
needing_map f d P Q more (later, x, comes, h) = (later, x, comes, more later x h)

module _ (old new : SessionState) (number : ℕ) (c : Command) where
  -- an error that is passed on
  pub not_done : {T : Type 0} (e : CommandError) → ((n : ℕ) → IsErrOf {T = T} {E = CommandError} (Err e) (Refused n) → IsRefusal (state_of old) c n) → IsSame old new → IsDone old number c new (Err e)
  not_done (Refused n) why unchanged = (why n refl, unchanged)
  not_done NoMemory why unchanged = unchanged

module _ (old : SessionState) (number : ℕ) (c : Command) (accepted : (n : ℕ) → IsRefusal (state_of old) c n → ⊥) (a : Answer) where
  -- a command that changes the stack
  pub changes : (stack : Stack) → Does (state_of old) number c (quiet (changed (state_of old) stack)) → ((s : State) → IsAnswer (said s (success old.options)) a) → Performs old number c (record old { stack = stack; kept = None }) a
  changes stack does answer =
      record {
        effect = quiet (changed (state_of old) stack);
        accepted = (accepted, does);
        state = refl;
        given = sym (nothing_later (evidence_of old));
        answer = answer (changed (state_of old) stack);
      }

  -- a command that leaves the first assertions, with their labels
  pub cuts : (stack : Stack) (labels : Vec (Option (List ℕ))) → labels.items ≡ take (length (in_force stack)) old.labels.items → Does (state_of old) number c (quiet (cut_back (state_of old) stack)) → ((s : State) → IsAnswer (said s (success old.options)) a) → Performs old number c (record old { stack = stack; labels = labels; kept = None }) a
  cuts stack labels are does answer =
      record {
        effect = quiet (cut_back (state_of old) stack);
        accepted = (accepted, does);
        state = ap (λ (ls : List (Option (List ℕ))). record { stack = stack; labels = ls; options = old.options; diagnostic_output = channel_in old.diagnostic_output; kept = None }) are;
        given = sym (nothing_later (evidence_of old));
        answer = answer (cut_back (state_of old) stack);
      }

  -- a command that asserts a formula with this label, over this stack
  pub asserts : (stack new : Stack) (label : Option (List ℕ)) (t : Formula) (labels : Vec (Option (List ℕ))) → new ≡ asserting_as stack label t → labels.items ≡ old.labels.items ++ label ∷ [] → Does (state_of old) number c (quiet (asserted (state_of old) stack label t)) → ((s : State) → IsAnswer (said s (success old.options)) a) → Performs old number c (record old { stack = new; labels = labels; kept = None }) a
  asserts stack new label t labels is are does answer =
      record {
        effect = quiet (asserted (state_of old) stack label t);
        accepted = (accepted, does);
        state =
            ap (λ (s : Stack). record { stack = s; labels = labels.items; options = old.options; diagnostic_output = channel_in old.diagnostic_output; kept = None }) is
            ∙ ap (λ (ls : List (Option (List ℕ))). record { stack = asserting_as stack label t; labels = ls; options = old.options; diagnostic_output = channel_in old.diagnostic_output; kept = None }) are;
        given = sym (nothing_later (evidence_of old));
        answer = answer (asserted (state_of old) stack label t);
      }

  -- a command that changes nothing
  pub answers : (text : List ℕ) → Does (state_of old) number c (said (state_of old) text) → ((s : State) → IsAnswer (said s text) a) → Performs old number c old a
  answers text does answer =
      record {
        effect = said (state_of old) text;
        accepted = (accepted, does);
        state = refl;
        given = sym (nothing_later (evidence_of old));
        answer = answer (state_of old);
      }

-- where room was made alone
pub same_responses : (old : SessionState) (responses : Vec CheckResponse) → responses.items ≡ old.responses.items → IsSame old (record old { responses = responses })
same_responses old responses is = record { stack = refl; labels = refl; options = refl; diagnostic_output = refl; responses = is; last = refl; shrunk = refl; kept = refl }

-- nothing refuses the command
pub never : (n : ℕ) → ⊥ → ⊥
never n none = none

-- where the stack has not changed
pub same_stack : (old : SessionState) (stack : Stack) → stack ≡ old.stack → IsSame old (record old { stack = stack })
same_stack old stack is = record { stack = is; labels = refl; options = refl; diagnostic_output = refl; responses = refl; last = refl; shrunk = refl; kept = refl }

-- and room was made for an answer
pub same_within : (old : SessionState) (stack : Stack) (responses : Vec CheckResponse) → stack ≡ old.stack → responses.items ≡ old.responses.items → IsSame old (record old { stack = stack; responses = responses })
same_within old stack responses is are = record { stack = is; labels = refl; options = refl; diagnostic_output = refl; responses = are; last = refl; shrunk = refl; kept = refl }

-- nor the labels
pub same_beside : (old : SessionState) (stack : Stack) (labels : Vec (Option (List ℕ))) → stack ≡ old.stack → labels.items ≡ old.labels.items → IsSame old (record old { stack = stack; labels = labels })
same_beside old stack labels is are = record { stack = is; labels = are; options = refl; diagnostic_output = refl; responses = refl; last = refl; shrunk = refl; kept = refl }

-- the same change of the stack has the same effect
pub quietly : (s : State) (new stack : Stack) → new ≡ stack → quiet (changed s new) ≡ quiet (changed s stack)
quietly s new stack is = ap (λ (t : Stack). quiet (changed s t)) is

-- what is done is done of the same command, and what is not done is not
pub done_as : (old new : SessionState) (number : ℕ) (a : Answer) (c d : Command) → c ≡ d → Performs old number c new a → Performs old number d new a
done_as old new number a c d is done = subst (λ (x : Command). Performs old number x new a) is done

pub not_done_as : {T : Type 0} (old new : SessionState) (number : ℕ) (c d : Command) (e : CommandError) → c ≡ d → ((n : ℕ) → IsErrOf {T = T} {E = CommandError} (Err e) (Refused n) → IsRefusal (state_of old) c n) → IsSame old new → IsDone old number d new (Err e)
not_done_as old new number c d e is why unchanged = subst (λ (x : Command). IsDone old number x new (Err e)) is (not_done old new number c e why unchanged)

-- everything is as at the start
pub resets : (old : SessionState) (number : ℕ) (stack : Stack) (labels : Vec (Option (List ℕ))) (options : Options) (a : Answer) → stack ≡ first_stack → labels.items ≡ [] → options ≡ first_options old.options.first_error_behavior → ((s : State) → IsAnswer (said s (success options)) a) → Performs old number reset (record { stack = stack; labels = labels; options = options; diagnostic_output = None; responses = old.responses; last = old.last; shrunk = old.shrunk; kept = None }) a
resets old number stack labels options a same_stack no_labels same_options answer =
    let start : State = starting old.options.first_error_behavior in
    record {
      effect = quiet start;
      accepted = (never, refl);
      state =
          ap (λ (s : Stack). record { stack = s; labels = labels.items; options = options; diagnostic_output = standard_error; kept = None }) same_stack
          ∙ ap (λ (ls : List (Option (List ℕ))). record { stack = first_stack; labels = ls; options = options; diagnostic_output = standard_error; kept = None }) no_labels
          ∙ ap (λ (o : Options). record { stack = first_stack; labels = []; options = o; diagnostic_output = standard_error; kept = None }) same_options;
      given = sym (nothing_later (evidence_of old));
      answer = subst (λ (o : Options). IsAnswer (said start (success o)) a) same_options (answer start);
    }

-- the script ends
pub ends : (old : SessionState) (number : ℕ) (a : Answer) → ((s : State) → IsAnswer (said s (success old.options)) a) → Performs old number exit old (record a { stop = true })
ends old number a answer =
    record {
      effect = record (quiet (state_of old)) { stop = true };
      accepted = (never, refl);
      state = refl;
      given = sym (nothing_later (evidence_of old));
      answer = record { text = (answer (state_of old)).text; error = (answer (state_of old)).error; stop = refl };
    }

-- an option is set
pub sets : (old : SessionState) (number : ℕ) (setting : Setting) (options : Options) (a : Answer) → ((n : ℕ) → IsRefusal (state_of old) (set_option setting) n → ⊥) → options ≡ with_setting old.options setting → ((s : State) → IsAnswer (said s (success options)) a) → Performs old number (set_option setting) (record old { options = options }) a
sets old number setting options a accepted is answer =
    record {
      effect = quiet (record (state_of old) { options = options });
      accepted = (accepted, ap (λ (o : Options). quiet (record (state_of old) { options = o })) is);
      state = refl;
      given = sym (nothing_later (evidence_of old));
      answer = answer (record (state_of old) { options = options });
    }

-- the diagnostic channel is set
pub sets_channel : (old : SessionState) (number : ℕ) (e : Expression) (text : List ℕ) (a : Answer) → text ≡ written e → ((s : State) → IsAnswer (said s (success old.options)) a) → Performs old number (set_diagnostic_output e) (record old { diagnostic_output = Some text }) a
sets_channel old number e text a is answer =
    record {
      effect = quiet (record (state_of old) { diagnostic_output = text });
      accepted = (never, ap (λ (t : List ℕ). quiet (record (state_of old) { diagnostic_output = t })) is);
      state = refl;
      given = sym (nothing_later (evidence_of old));
      answer = answer (record (state_of old) { diagnostic_output = text });
    }

-- what becomes of a command as it was read
pub seen_as : (old new : SessionState) (number : ℕ) (r : Result Answer CommandError) (c d : ReadCommand) → c ≡ d → IsDone old number (command_seen d) new r → IsDone old number (command_seen c) new r
seen_as old new number r c d is done = subst (λ (x : ReadCommand). IsDone old number (command_seen x) new r) (sym is) done
