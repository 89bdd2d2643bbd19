-- What a session that is seen as a course comes to.
use Rattle.std.proofs.Common.{◌≡◌, ◌∙◌, ℕ, List, [], ◌∷◌, ◌++◌, Option, Some, Result, Ok, Err, IfOk, refl, sym, ap, subst}
use Rattle.ct_sexpr.specs.Expression.{Expression}
use Rattle.ct_kept.specs.Kept.{Stored}
use Rattle.ct_command.specs.Command.{Command}
use Rattle.ct_command.specs.Reading.{Read, command}
use Rattle.ct_engine.specs.declared.verdict.Verdict.{Verdict}
use Rattle.ct_step.specs.Evidence.{Evidence}
use Rattle.ct_step.proofs.EvidenceLemmas.{both_same}
use Rattle.ct_step.specs.declared.answer.Answer.{Answer}
use Rattle.ct_step.specs.declared.state.SessionState.{SessionState}
use Rattle.ct_step.specs.State.{State}
use Rattle.ct_step.specs.Refusal.{IsRefusal}
use Rattle.ct_step.specs.Step.{CommandEffect, Steps, Step, refused, counted_with}
use Rattle.ct_step.specs.Done.{IsAnswer, Performs, IsSame, state_of, evidence_of}
use Rattle.ct_step.specs.Store.{Stores, StoresBy}
use Rattle.ct_script.specs.Session.{Course, reached, after}
use Rattle.ct_step.proofs.SoundLemmas.{same_state}
use Rattle.ct_script.proofs.SessionLemmas.{course, no_error, comes_done, comes_refused, comes_unread, comes_of}

-- a command that is done or refused, as what the expression does
pub stepped : {E : Type 0} (r : Result Answer E) (old : Course) (line : ℕ) (x : Expression) (c : Command) (new : Course) → command x ≡ Ok c → IfOk r (λ a. (e : CommandEffect) × Steps old.state (counted_with old.number c) line (Ok c) e × (new ≡ reached old line (counted_with old.number c) e new.store) × IsAnswer e a) → IfOk r (λ a. (e : CommandEffect) × Step old.state old.number line x e × (new ≡ after old line x e new.store) × IsAnswer e a)
stepped (Ok a) old line x c new is h = comes_of old line x (Ok c) new a is h
stepped (Err f) old line x c new is h = tt

-- and what becomes of the store by it
pub stored_as : {E : Type 0} (r : Result Answer E) (old new : Course) (x : Expression) (read : Read) → command x ≡ read → IfOk r (λ a. StoresBy old.state read a.error new.evidence.last old.store new.store) → IfOk r (λ a. StoresBy old.state (command x) a.error new.evidence.last old.store new.store)
stored_as r old new x read is h = subst (λ (y : Read). IfOk r (λ (a : Answer). StoresBy old.state y a.error new.evidence.last old.store new.store)) (sym is) h

-- what is refused leaves the store
stored_refused : (s : State) (read : Read) (n : ℕ) (o : Option ℕ) (last : Option Verdict) (store : Stored) → o ≡ Some n → StoresBy s read o last store store
stored_refused s (Ok c) n o last store is = subst (λ (p : Option ℕ). StoresBy s (Ok c) p last store store) (sym is) refl
stored_refused s (Err m) n o last store is = subst (λ (p : Option ℕ). StoresBy s (Err m) p last store store) (sym is) refl

module _ (old : SessionState) (number : ℕ) (errors : List (ℕ × ℕ)) (store : Stored) (s : Course) (seen : course old number errors store ≡ s) (line : ℕ) where
  -- an expression that is no command
  pub unread : (x : Expression) (code : ℕ) (a : Answer) (new_errors : List (ℕ × ℕ)) → command x ≡ Err code → new_errors ≡ errors ++ (line, code) ∷ [] → IsAnswer (refused (state_of old) line code) a → (e : CommandEffect) × Step s.state s.number line x e × (course old number new_errors store ≡ after s line x e store) × IsAnswer e a
  unread x code a new_errors is stored answer =
      subst (λ (t : Course). (e : CommandEffect) × Step t.state t.number line x e × (course old number new_errors store ≡ after t line x e store) × IsAnswer e a) seen
      (comes_of (course old number errors store) line x (Err code) (course old number new_errors store) a is (comes_unread old number errors store line code a new_errors stored answer))

  -- leaves the store, as a command that is refused
  pub store_left : (read : Read) (code : ℕ) (a : Answer) (last : Option Verdict) → IsAnswer (refused (state_of old) line code) a → StoresBy s.state read a.error last s.store store
  store_left read code a last answer =
      subst (λ (t : Course). StoresBy t.state read a.error last t.store store) seen
      (stored_refused (state_of old) read code a.error last store answer.error)

  module _ (new : SessionState) (count : ℕ) (left : Stored) (c : Command) (counts : count ≡ counted_with number c) where
    -- a command that is done
    pub done : (a : Answer) → Performs old count c new a → (e : CommandEffect) × Steps s.state (counted_with s.number c) line (Ok c) e × (course new count errors left ≡ reached s line (counted_with s.number c) e left) × IsAnswer e a
    done a p =
        subst (λ (t : Course). (e : CommandEffect) × Steps t.state (counted_with t.number c) line (Ok c) e × (course new count errors left ≡ reached t line (counted_with t.number c) e left) × IsAnswer e a) seen
        (comes_done old number errors store line new count left c counts a p)

    -- and what it makes of the store
    pub store_done : (a : Answer) → Performs old count c new a → Stores (state_of old) c new.last store left → StoresBy s.state (Ok c) a.error new.last s.store left
    store_done a p stored =
        subst (λ (t : Course). StoresBy t.state (Ok c) a.error new.last t.store left) seen
        (subst (λ (o : Option ℕ). StoresBy (state_of old) (Ok c) o new.last store left) (sym (p.answer.error ∙ no_error (state_of old) count c p.effect p.accepted.1)) stored)

    -- a command that is refused
    pub not_done : (code : ℕ) (a : Answer) (new_errors : List (ℕ × ℕ)) → IsRefusal (state_of old) c code × IsSame old new → new_errors ≡ errors ++ (line, code) ∷ [] → IsAnswer (refused (state_of old) line code) a → (e : CommandEffect) × Steps s.state (counted_with s.number c) line (Ok c) e × (course new count new_errors left ≡ reached s line (counted_with s.number c) e left) × IsAnswer e a
    not_done code a new_errors refusal stored answer =
        subst (λ (t : Course). (e : CommandEffect) × Steps t.state (counted_with t.number c) line (Ok c) e × (course new count new_errors left ≡ reached t line (counted_with t.number c) e left) × IsAnswer e a) seen
        (comes_refused old number errors store line new count left c counts code a new_errors refusal.0 refusal.1 stored answer)

  -- nothing has changed
  pub unchanged : (new : SessionState) (new_errors : List (ℕ × ℕ)) (left : Stored) → IsSame old new → new_errors ≡ errors → left ≡ store → course new number new_errors left ≡ s
  unchanged new new_errors left same e is =
      ap (λ (t : State). record { state = t; number = number; evidence = evidence_of new; errors = new_errors; store = left }) (same_state old new same)
      ∙ ap (λ (kept : Evidence). record { state = state_of old; number = number; evidence = kept; errors = new_errors; store = left }) (both_same _ _ _ _ _ _ same.responses same.last same.shrunk)
      ∙ ap (λ (es : List (ℕ × ℕ)). course old number es left) e
      ∙ ap (λ (k : Stored). course old number errors k) is
      ∙ seen
