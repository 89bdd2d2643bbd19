-- What a session comes to by a command that is accepted, by one that is refused, and by an expression that is no command.
use Rattle.std.proofs.Common.{◌≡◌, ◌∙◌, ℕ, List, [], ◌∷◌, ◌++◌, Option, None, Ok, Err, refl, sym, ap, subst, inl, inr}
use Rattle.std.proofs.lemmas.List.{append-nil}
use Rattle.ct_sexpr.specs.Expression.{Expression}
use Rattle.ct_sorts.specs.Declarations.{with_function}
use Rattle.ct_model.specs.ModelText.{IsModelText}
use Rattle.ct_log_text.specs.Written.{expression_of_record, text_of}
use Rattle.ct_kept.specs.Kept.{Stored}
use Rattle.ct_command.specs.Command.{Command, set_logic, set_option, set_diagnostic_output, get_option, set_info, get_info, declare_sort, define_sort, declare_block, declare_fun, define_fun, assert, check_sat, check_sat_assuming, push, pop, reset_assertions, reset, get_model, get_value, get_proof, get_unsat_core, get_unsat_assumptions, echo, exit, unsupported}
use Rattle.ct_command.specs.Reading.{Read, command}
use Rattle.ct_step.specs.Evidence.{Evidence, no_evidence, followed_by}
use Rattle.ct_step.proofs.EvidenceLemmas.{both_same, nothing_later}
use Rattle.ct_stack.specs.Stack.{declaring, in_context, defined_in}
use Rattle.ct_stack.specs.Assuming.{assumptions}
use Rattle.ct_stack.specs.Elaborations.{synonym_body, with_synonym_of, declared_function, defined_function, asserted_formula}
use Rattle.ct_stack.specs.Refusal.{over}
use Rattle.ct_stack.specs.Values.{AreValues}
use Rattle.ct_step.specs.declared.answer.Answer.{Answer}
use Rattle.ct_step.specs.declared.state.SessionState.{SessionState}
use Rattle.ct_step.specs.declared.cores.Members.TheVariants as members
use Rattle.ct_step.specs.State.{State, declared, with_declarations, context_of, changed, asserted, model_kept, derivation_kept, refuted_kept, assuming_kept}
use Rattle.ct_step.specs.Refusal.{IsRefusal}
use Rattle.ct_step.specs.Step.{CommandEffect, Does, DecidesAssuming, Steps, Step, PrintsCore, refused, said, quiet, counted_by}
use Rattle.ct_script.specs.Answers.{errors_of}
use Rattle.ct_step.specs.Done.{IsAnswer, Performs, IsSame, state_of, evidence_of}
use Rattle.ct_script.specs.Session.{Course, reached, after}
use Rattle.ct_step.proofs.SoundLemmas.{only, only_needing, only_of, prints, same_state}

error_of : (e t : CommandEffect) → t.error ≡ None → e ≡ t → e.error ≡ None
error_of e t none is = ap (λ (x : CommandEffect). x.error) is ∙ none

-- a command that is accepted has no error
pub no_error : (s : State) (number : ℕ) (c : Command) (e : CommandEffect) → Does s number c e → e.error ≡ None
no_error s number (set_logic name) e is = error_of e _ refl is
no_error s number (set_option setting) e is = error_of e _ refl is
no_error s number (set_diagnostic_output text) e is = error_of e _ refl is
no_error s number (get_option option) e is = error_of e _ refl is
no_error s number set_info e is = error_of e _ refl is
no_error s number (get_info info) e is = error_of e _ refl is
no_error s number (declare_sort name params) e is = error_of e _ refl is
no_error s number (define_sort name params body) e is = only (synonym_body (declared s) params body) (λ sort. e ≡ quiet (changed s (declaring s.stack (with_synonym_of (declared s) name params sort)))) (e.error ≡ None) (λ sort h. ap (λ (x : CommandEffect). x.error) h) is
no_error s number (declare_block family heads bodies) e is = ap (λ (x : CommandEffect). x.error) is.2
no_error s number (declare_fun name args sort) e is = only_needing (λ d. declared_function d name args sort) (declared s) (λ later f. e ≡ quiet (changed s (declaring s.stack (with_function later f)))) (e.error ≡ None) (λ later f comes h. ap (λ (x : CommandEffect). x.error) h) is
no_error s number (define_fun name params sort t) e is = only_needing (λ d. defined_function d name params sort t) (declared s) (λ later f. e ≡ quiet (changed s (in_context s.stack (defined_in (over (context_of s) later) f)))) (e.error ≡ None) (λ later f comes h. ap (λ (x : CommandEffect). x.error) h) is
no_error s number (assert t label) e is = only_needing (λ d. asserted_formula d t) (declared s) (λ later formula. e ≡ quiet (asserted s (declaring s.stack later) label formula)) (e.error ≡ None) (λ later formula comes h. ap (λ (x : CommandEffect). x.error) h) is
no_error s number check_sat e is = ap (λ (x : CommandEffect). x.error) is.2
no_error s number (check_sat_assuming ts) e is = only_needing (λ d. assumptions d ts) (declared s) (λ later assumed. DecidesAssuming (with_declarations s later) assumed e) (e.error ≡ None) (λ later assumed comes h. ap (λ (x : CommandEffect). x.error) h.2) is
no_error s number (push n) e is = error_of e _ refl is
no_error s number (pop n) e is = error_of e _ refl is
no_error s number reset_assertions e is = error_of e _ refl is
no_error s number reset e is = error_of e _ refl is
no_error s number get_model e is = only_of (model_kept s.kept) (λ i. (text : List ℕ) × IsModelText (declared s) i text × (e ≡ said s text)) (e.error ≡ None) (λ i h. ap (λ (x : CommandEffect). x.error) h.2) is
no_error s number (get_value ts) e is = only_of (model_kept s.kept) (λ i. (text : List ℕ) × AreValues (context_of s) i ts text × (e ≡ said s text)) (e.error ≡ None) (λ i h. ap (λ (x : CommandEffect). x.error) h.2) is
no_error s number get_proof e is = only_of (derivation_kept s.kept) (λ p. e ≡ said s (text_of (expression_of_record (declared s) p.0 p.1.rec))) (e.error ≡ None) (λ p h. ap (λ (x : CommandEffect). x.error) h) is
no_error s number get_unsat_core e is = only_of (refuted_kept s.kept) (λ refuted. PrintsCore s members.Names refuted e) (e.error ≡ None) (λ refuted h. prints s members.Names refuted e (e.error ≡ None) (λ text kept printed. ap (λ (x : CommandEffect). x.error) printed) h) is
no_error s number get_unsat_assumptions e is = only_of (assuming_kept s.kept) (λ refuted. PrintsCore s members.Assumptions refuted e) (e.error ≡ None) (λ refuted h. prints s members.Assumptions refuted e (e.error ≡ None) (λ text kept printed. ap (λ (x : CommandEffect). x.error) printed) h) is
no_error s number (echo x) e is = error_of e _ refl is
no_error s number exit e is = error_of e _ refl is
no_error s number unsupported e is = error_of e _ refl is

-- what a session with these parts is seen as
abbrev pub course : SessionState → ℕ → List (ℕ × ℕ) → Stored → Course
course s number errors store = record { state = state_of s; number = number; evidence = evidence_of s; errors = errors; store = store }

-- the session comes to this course by an effect of what was read on this line
abbrev pub Comes : Course → ℕ → Read → Course → Answer → Type 0
Comes old line r new a =
    (e : CommandEffect) × Steps old.state (counted_by old.number r) line r e × (new ≡ reached old line (counted_by old.number r) e new.store) × IsAnswer e a

module _ (old : SessionState) (old_number : ℕ) (errors : List (ℕ × ℕ)) (store : Stored) (line : ℕ) where
  abbrev before : Course
  before = course old old_number errors store

  module _ (new : SessionState) (number : ℕ) (left : Stored) (c : Command) (count : number ≡ counted_by old_number (Ok c)) where
    -- by a command that is done
    pub comes_done : (a : Answer) → Performs old number c new a → Comes before line (Ok c) (course new number errors left) a
    comes_done a p =
        subst (λ (n : ℕ). (e : CommandEffect) × Steps before.state n line (Ok c) e × (course new number errors left ≡ reached before line n e left) × IsAnswer e a) count
        (p.effect, inr p.accepted, same, p.answer)
      where
        none : errors ++ errors_of line p.effect.error ≡ errors
        none = ap (λ (o : Option ℕ). errors ++ errors_of line o) (no_error (state_of old) number c p.effect p.accepted.1) ∙ append-nil errors

        same : course new number errors left ≡ reached before line number p.effect left
        same =
            ap (λ (s : State). record { state = s; number = number; evidence = evidence_of new; errors = errors; store = left }) p.state
            ∙ ap (λ (kept : Evidence). record { state = p.effect.state; number = number; evidence = kept; errors = errors; store = left }) p.given
            ∙ ap (λ (es : List (ℕ × ℕ)). record { state = p.effect.state; number = number; evidence = followed_by (evidence_of old) p.effect.evidence; errors = es; store = left }) (sym none)

    -- by a command that is refused
    pub comes_refused : (code : ℕ) (a : Answer) (new_errors : List (ℕ × ℕ)) → IsRefusal (state_of old) c code → IsSame old new → new_errors ≡ errors ++ (line, code) ∷ [] → IsAnswer (refused (state_of old) line code) a → Comes before line (Ok c) (course new number new_errors left) a
    comes_refused code a new_errors refusal unchanged stored answer =
        subst (λ (n : ℕ). (e : CommandEffect) × Steps before.state n line (Ok c) e × (course new number new_errors left ≡ reached before line n e left) × IsAnswer e a) count
        (refused (state_of old) line code, inl (code, refusal, refl), same, answer)
      where
        same : course new number new_errors left ≡ reached before line number (refused (state_of old) line code) left
        same =
            ap (λ (s : State). record { state = s; number = number; evidence = evidence_of new; errors = new_errors; store = left }) (same_state old new unchanged)
            ∙ ap (λ (kept : Evidence). record { state = state_of old; number = number; evidence = kept; errors = new_errors; store = left }) (both_same _ _ _ _ _ _ unchanged.responses unchanged.last unchanged.shrunk ∙ sym (nothing_later (evidence_of old)))
            ∙ ap (λ (es : List (ℕ × ℕ)). record { state = state_of old; number = number; evidence = followed_by (evidence_of old) no_evidence; errors = es; store = left }) stored

  -- by an expression that is no command
  pub comes_unread : (code : ℕ) (a : Answer) (new_errors : List (ℕ × ℕ)) → new_errors ≡ errors ++ (line, code) ∷ [] → IsAnswer (refused (state_of old) line code) a → Comes before line (Err code) (course old old_number new_errors store) a
  comes_unread code a new_errors stored answer =
      (refused (state_of old) line code, refl, same, answer)
    where
      same : course old old_number new_errors store ≡ reached before line old_number (refused (state_of old) line code) store
      same =
          ap (λ (es : List (ℕ × ℕ)). course old old_number es store) stored
          ∙ ap (λ (kept : Evidence). record { state = state_of old; number = old_number; evidence = kept; errors = errors ++ (line, code) ∷ []; store = store }) (sym (nothing_later (evidence_of old)))

-- what comes of what was read comes of the expression that was read so
pub comes_of : (old : Course) (line : ℕ) (x : Expression) (r : Read) (new : Course) (a : Answer) → command x ≡ r → Comes old line r new a → (e : CommandEffect) × Step old.state old.number line x e × (new ≡ after old line x e new.store) × IsAnswer e a
comes_of old line x r new a is h = subst (λ (r : Read). Comes old line r new a) (sym is) h
