-- Commands that are replayed: a check is counted, what hangs on a verdict is passed over, and every other command does its step, of which
-- nothing is kept.
use Rattle.std.proofs.Common.{◌≡◌, ◌∙◌, ℕ, Bool, true, false, true≢false, List, [], ◌∷◌, ◌++◌, Option, None, Some, Ok, Err, refl, sym, ap, subst, inl, inr}
use Rattle.std.specs.Bool.{MatchBool}
use Rattle.std.proofs.lemmas.List.{append-nil}
use Rattle.std.proofs.lemmas.Option.{none-some}
use Rattle.ct_sorts.specs.Declarations.{with_function}
use Rattle.ct_kept.specs.Kept.{Stored}
use Rattle.ct_model.specs.ModelText.{IsModelText}
use Rattle.ct_log_text.specs.Written.{expression_of_record, text_of}
use Rattle.ct_command.specs.Command.{Command, set_logic, set_option, set_diagnostic_output, get_option, set_info, get_info, declare_sort, define_sort, declare_block, declare_fun, define_fun, assert, check_sat, check_sat_assuming, push, pop, reset_assertions, reset, get_model, get_value, get_proof, get_unsat_core, get_unsat_assumptions, echo, exit, unsupported}
use Rattle.ct_command.specs.Reading.{Read, command}
use Rattle.ct_sexpr.specs.Expression.{Expression}
use Rattle.ct_stack.specs.Stack.{declaring, in_context, defined_in}
use Rattle.ct_stack.specs.Elaborations.{synonym_body, with_synonym_of, declared_function, defined_function, asserted_formula}
use Rattle.ct_stack.specs.Refusal.{over}
use Rattle.ct_stack.specs.Values.{AreValues}
use Rattle.ct_step.specs.declared.answer.Answer.{Answer}
use Rattle.ct_script.specs.declared.replay.Replayed.{Replayed}
use Rattle.ct_script.specs.declared.replay.Standing.{Standing}
use Rattle.ct_script.specs.declared.replay.Standing.TheVariants.{Check, Assuming}
use Rattle.ct_step.specs.declared.cores.Members.TheVariants as members
use Rattle.ct_step.specs.declared.state.Asked.{Asked}
use Rattle.ct_step.specs.declared.state.SessionState.{SessionState}
use Rattle.ct_step.specs.Evidence.{Evidence, no_evidence, followed_by}
use Rattle.ct_step.specs.State.{State, Kept, declared, context_of, changed, asserted, model_kept, derivation_kept, refuted_kept, assuming_kept}
use Rattle.ct_step.specs.Step.{CommandEffect, Does, OfKept, PrintsCore, Steps, said, quiet, refused, counted_with, one_more}
use Rattle.ct_step.specs.Done.{IsAnswer, IsSame, state_of, evidence_of, kept_of}
use Rattle.ct_step.specs.Refusal.{IsRefusal}
use Rattle.ct_step.specs.Rehearsal.{IsRehearsed, RehearsesAs, assumed_terms}
use Rattle.ct_script.specs.Session.{Course, reached}
use Rattle.ct_script.specs.Replay.{is_check, awaits_verdict, hangs, changes, standing_by, unless_refused, standing_after, IsCounted, IsPassedOver, IsStepped, Replays}
use Rattle.ct_step.proofs.EvidenceLemmas.{nothing_later, both_same}
use Rattle.ct_step.proofs.SoundLemmas.{only, only_needing, only_of, same_state}
use Rattle.ct_script.proofs.SessionLemmas.{course, Comes, comes_unread}

-- an effect of which nothing is kept
given_none : (e t : CommandEffect) → t.evidence ≡ no_evidence → e ≡ t → e.evidence ≡ no_evidence
given_none e t none is = ap (λ (x : CommandEffect). x.evidence) is ∙ none

-- nothing is kept where no verdict was given
pub nothing_stands : (asked : Option Asked) → kept_of None asked ≡ None
nothing_stands None = refl
nothing_stands (Some a) = refl

-- nothing is kept of a command that is no check, with assumptions or without, and is not answered from a verdict
nothing_given : (s : State) (number : ℕ) (c : Command) (e : CommandEffect) → is_check (Ok c) ≡ false → (awaits_verdict (Ok c) ≡ true → s.kept ≡ None) → assumed_terms (Ok c) ≡ None → Does s number c e → e.evidence ≡ no_evidence
nothing_given s number (set_logic name) e other apart none is = given_none e _ refl is
nothing_given s number (set_option setting) e other apart none is = given_none e _ refl is
nothing_given s number (set_diagnostic_output text) e other apart none is = given_none e _ refl is
nothing_given s number (get_option option) e other apart none is = given_none e _ refl is
nothing_given s number set_info e other apart none is = given_none e _ refl is
nothing_given s number (get_info info) e other apart none is = given_none e _ refl is
nothing_given s number (declare_sort name params) e other apart none is = given_none e _ refl is
nothing_given s number (define_sort name params body) e other apart none is = only (synonym_body (declared s) params body) (λ sort. e ≡ quiet (changed s (declaring s.stack (with_synonym_of (declared s) name params sort)))) (e.evidence ≡ no_evidence) (λ sort h. ap (λ (x : CommandEffect). x.evidence) h) is
nothing_given s number (declare_block family heads bodies) e other apart none is = ap (λ (x : CommandEffect). x.evidence) is.2
nothing_given s number (declare_fun name args sort) e other apart none is = only_needing (λ d. declared_function d name args sort) (declared s) (λ later f. e ≡ quiet (changed s (declaring s.stack (with_function later f)))) (e.evidence ≡ no_evidence) (λ later f comes h. ap (λ (x : CommandEffect). x.evidence) h) is
nothing_given s number (define_fun name params sort t) e other apart none is = only_needing (λ d. defined_function d name params sort t) (declared s) (λ later f. e ≡ quiet (changed s (in_context s.stack (defined_in (over (context_of s) later) f)))) (e.evidence ≡ no_evidence) (λ later f comes h. ap (λ (x : CommandEffect). x.evidence) h) is
nothing_given s number (assert t label) e other apart none is = only_needing (λ d. asserted_formula d t) (declared s) (λ later formula. e ≡ quiet (asserted s (declaring s.stack later) label formula)) (e.evidence ≡ no_evidence) (λ later formula comes h. ap (λ (x : CommandEffect). x.evidence) h) is
nothing_given s number check_sat e other apart none is = absurd (true≢false other)
nothing_given s number (check_sat_assuming ts) e other apart none is = absurd (none-some ts (sym none))
nothing_given s number (push n) e other apart none is = given_none e _ refl is
nothing_given s number (pop n) e other apart none is = given_none e _ refl is
nothing_given s number reset_assertions e other apart none is = given_none e _ refl is
nothing_given s number reset e other apart none is = given_none e _ refl is
nothing_given s number get_model e other apart none is = absurd (subst (λ (k : Option Kept). OfKept (model_kept k) (λ i. (text : List ℕ) × IsModelText (declared s) i text × (e ≡ said s text))) (apart refl) is)
nothing_given s number (get_value ts) e other apart none is = absurd (subst (λ (k : Option Kept). OfKept (model_kept k) (λ i. (text : List ℕ) × AreValues (context_of s) i ts text × (e ≡ said s text))) (apart refl) is)
nothing_given s number get_proof e other apart none is = absurd (subst (λ (k : Option Kept). OfKept (derivation_kept k) (λ p. e ≡ said s (text_of (expression_of_record (declared s) p.0 p.1.rec)))) (apart refl) is)
nothing_given s number get_unsat_core e other apart none is = absurd (subst (λ (k : Option Kept). OfKept (refuted_kept k) (λ refuted. PrintsCore s members.Names refuted e)) (apart refl) is)
nothing_given s number get_unsat_assumptions e other apart none is = absurd (subst (λ (k : Option Kept). OfKept (assuming_kept k) (λ refuted. PrintsCore s members.Assumptions refuted e)) (apart refl) is)
nothing_given s number (echo x) e other apart none is = given_none e _ refl is
nothing_given s number exit e other apart none is = given_none e _ refl is
nothing_given s number unsupported e other apart none is = given_none e _ refl is

-- nor is it counted
uncounted : (number : ℕ) (c : Command) → is_check (Ok c) ≡ false → counted_with number c ≡ number
uncounted number (set_logic name) other = refl
uncounted number (set_option setting) other = refl
uncounted number (set_diagnostic_output text) other = refl
uncounted number (get_option option) other = refl
uncounted number set_info other = refl
uncounted number (get_info info) other = refl
uncounted number (declare_sort name params) other = refl
uncounted number (define_sort name params body) other = refl
uncounted number (declare_block family heads bodies) other = refl
uncounted number (declare_fun name args sort) other = refl
uncounted number (define_fun name params sort t) other = refl
uncounted number (assert t label) other = refl
uncounted number (check_sat_assuming ls) other = refl
uncounted number get_unsat_core other = refl
uncounted number get_unsat_assumptions other = refl
uncounted number check_sat other = absurd (true≢false other)
uncounted number (push n) other = refl
uncounted number (pop n) other = refl
uncounted number reset_assertions other = refl
uncounted number reset other = refl
uncounted number get_model other = refl
uncounted number (get_value ts) other = refl
uncounted number get_proof other = refl
uncounted number (echo x) other = refl
uncounted number exit other = refl
uncounted number unsupported other = refl

-- and so of one that is refused
silent : (s : State) (number line : ℕ) (c : Command) (e : CommandEffect) → is_check (Ok c) ≡ false → (awaits_verdict (Ok c) ≡ true → s.kept ≡ None) → assumed_terms (Ok c) ≡ None → Steps s number line (Ok c) e → e.evidence ≡ no_evidence
silent s number line c e other apart none (inl refused) = ap (λ (x : CommandEffect). x.evidence) refused.2
silent s number line c e other apart none (inr accepted) = nothing_given s number c e other apart none accepted.1

-- where a verdict of such a check stands
module _ (standing : Standing) where
  -- what becomes of a command that is no check and hangs on no verdict
  stepped : (old new : Course) (line : ℕ) (c : Command) (r : Replayed) → is_check (Ok c) ≡ false → hangs standing (Ok c) ≡ false → IsStepped old standing line (Ok c) new r → Replays old standing line (Ok c) new r
  stepped old new line c r other apart h =
      subst (λ (b : Bool). MatchBool b (IsCounted old new r) (MatchBool (hangs standing (Ok c)) (IsPassedOver old standing new r) (IsStepped old standing line (Ok c) new r))) (sym other)
      (subst (λ (b : Bool). MatchBool b (IsPassedOver old standing new r) (IsStepped old standing line (Ok c) new r)) (sym apart) h)

  -- what is gone through, by what a check assumes
  abbrev IsSteppedAs : Course → ℕ → Read → Bool → Course → Replayed → Option (List Expression) → Type 0
  IsSteppedAs old line read change new r terms =
      (e : CommandEffect) × RehearsesAs terms old.state old.number line read e × (new ≡ reached old line old.number e new.store)
      × (r.check ≡ false) × (r.stop ≡ e.stop) × (r.standing ≡ unless_refused e.error standing (standing_by terms change standing))

  -- what a command that was done says of it as one that is replayed
  pub replays : (old new : Course) (line : ℕ) (c : Command) (a : Answer) (r : Replayed) → is_check (Ok c) ≡ false → hangs standing (Ok c) ≡ false → assumed_terms (Ok c) ≡ None → (e : CommandEffect) × Steps old.state (counted_with old.number c) line (Ok c) e × (new ≡ reached old line (counted_with old.number c) e new.store) × IsAnswer e a → r.check ≡ false → r.stop ≡ a.stop → r.standing ≡ unless_refused a.error standing (standing_by None (changes (Ok c)) standing) → Replays old standing line (Ok c) new r
  replays old new line c a r other apart none (e, steps, is, answer) check stop stands =
      stepped old new line c r other apart
      (subst (IsSteppedAs old line (Ok c) (changes (Ok c)) new r) (sym none) (
        e,
        subst (λ (n : ℕ). Steps old.state n line (Ok c) e) same steps,
        is ∙ ap (λ (n : ℕ). reached old line n e new.store) same,
        check,
        stop ∙ answer.stop,
        stands ∙ ap (λ (o : Option ℕ). unless_refused o standing (standing_by None (changes (Ok c)) standing)) answer.error,
      ))
    where
      same : counted_with old.number c ≡ old.number
      same = uncounted old.number c other

  -- and what a check with assumptions does but for its verdict
  pub rehearses : (old new : Course) (line : ℕ) (c : Command) (ts : List Expression) (r : Replayed) → is_check (Ok c) ≡ false → hangs standing (Ok c) ≡ false → Some ts ≡ assumed_terms (Ok c) → IsStepped old standing line (Ok (check_sat_assuming ts)) new r → Replays old standing line (Ok c) new r
  rehearses old new line c ts r other apart some h = stepped old new line c r other apart (subst (IsSteppedAs old line (Ok c) (changes (Ok c)) new r) some h)

  -- what hangs on a verdict is passed over
  pub passes : (old new : Course) (line : ℕ) (c : Command) (r : Replayed) → is_check (Ok c) ≡ false → hangs standing (Ok c) ≡ true → new ≡ old → r.check ≡ false → r.stop ≡ false → r.standing ≡ standing → Replays old standing line (Ok c) new r
  passes old new line c r other hanging same check stop stands =
      subst (λ (b : Bool). MatchBool b (IsCounted old new r) (MatchBool (hangs standing (Ok c)) (IsPassedOver old standing new r) (IsStepped old standing line (Ok c) new r))) (sym other)
      (subst (λ (b : Bool). MatchBool b (IsPassedOver old standing new r) (IsStepped old standing line (Ok c) new r)) (sym hanging) (same, check, stop, stands))

-- and of what is kept
pub none_given : (old new : Course) (line : ℕ) (c : Command) (a : Answer) → is_check (Ok c) ≡ false → (awaits_verdict (Ok c) ≡ true → old.state.kept ≡ None) → assumed_terms (Ok c) ≡ None → (e : CommandEffect) × Steps old.state (counted_with old.number c) line (Ok c) e × (new ≡ reached old line (counted_with old.number c) e new.store) × IsAnswer e a → old.evidence ≡ no_evidence → new.evidence ≡ no_evidence
none_given old new line c a other apart unassumed (e, steps, is, answer) none =
    ap (λ (x : Course). x.evidence) is
    ∙ ap (λ (kept : Evidence). followed_by old.evidence kept) (silent old.state (counted_with old.number c) line c e other apart unassumed steps)
    ∙ nothing_later old.evidence
    ∙ none

-- a check is counted
pub counts : (old : SessionState) (number : ℕ) (errors : List (ℕ × ℕ)) (store : Stored) (s : Course) → course old number errors store ≡ s → (standing : Standing) (line : ℕ) (c : Command) (count : ℕ) (r : Replayed) → is_check (Ok c) ≡ true → count ≡ one_more number → r.check ≡ true → r.stop ≡ false → r.standing ≡ Check → Replays s standing line (Ok c) (course old count errors store) r
counts old number errors store s seen standing line c count r is same check stop stands =
    subst (λ (b : Bool). MatchBool b (IsCounted s (course old count errors store) r) (MatchBool (hangs standing (Ok c)) (IsPassedOver s standing (course old count errors store) r) (IsStepped s standing line (Ok c) (course old count errors store) r))) (sym is)
    (subst (λ (t : Course). course old count errors store ≡ record t { number = one_more t.number }) seen (ap (λ (n : ℕ). course old n errors store) same), check, stop, stands)

-- what is no command is refused
pub unread : (old : SessionState) (number : ℕ) (errors : List (ℕ × ℕ)) (store : Stored) (s : Course) → course old number errors store ≡ s → (standing : Standing) (line : ℕ) (x : Expression) (code : ℕ) (a : Answer) (r : Replayed) (new_errors : List (ℕ × ℕ)) → command x ≡ Err code → new_errors ≡ errors ++ (line, code) ∷ [] → IsAnswer (refused (state_of old) line code) a → r.check ≡ false → r.stop ≡ a.stop → r.standing ≡ standing → Replays s standing line (command x) (course old number new_errors store) r
unread old number errors store s seen standing line x code a r new_errors is stored answer check stop stands =
    subst (λ (read : Read). Replays s standing line read (course old number new_errors store) r) (sym is)
    (subst (λ (t : Course). Replays t standing line (Err code) (course old number new_errors store) r) seen replayed)
  where
    come : Comes (course old number errors store) line (Err code) (course old number new_errors store) a
    come = comes_unread old number errors store line code a new_errors stored answer

    replayed : Replays (course old number errors store) standing line (Err code) (course old number new_errors store) r
    replayed = (
      come.0,
      come.1,
      come.2,
      check,
      stop ∙ come.3.stop,
      stands ∙ ap (λ (o : Option ℕ). unless_refused o standing standing) (sym answer.error ∙ come.3.error),
    )

-- a check with assumptions that was gone through
module _ (old : SessionState) (number : ℕ) (errors : List (ℕ × ℕ)) (store : Stored) (s : Course) (seen : course old number errors store ≡ s) (standing : Standing) (line : ℕ) (ts : List Expression) where
  abbrev Goes : SessionState → List (ℕ × ℕ) → Replayed → Course → Type 0
  Goes new new_errors r t = IsStepped t standing line (Ok (check_sat_assuming ts)) (course new number new_errors store) r

  pub went_through : (new : SessionState) (r : Replayed) → IsRehearsed old ts new → r.check ≡ false → r.stop ≡ false → r.standing ≡ Assuming → Goes new errors r s
  went_through new r is check stop stands =
      subst (Goes new errors r) seen (
        said (state_of new) [],
        inr (is.accepted, (state_of new, is.sorts, refl)),
        ap (λ (kept : Evidence). record { state = state_of new; number = number; evidence = kept; errors = errors; store = store }) (is.unanswered ∙ sym (nothing_later (evidence_of old)))
            ∙ ap (λ (es : List (ℕ × ℕ)). record { state = state_of new; number = number; evidence = followed_by (evidence_of old) no_evidence; errors = es; store = store }) (sym (append-nil errors)),
        check,
        stop,
        stands,
      )

  pub was_refused : (new : SessionState) (code : ℕ) (a : Answer) (r : Replayed) (new_errors : List (ℕ × ℕ)) → IsRefusal (state_of old) (check_sat_assuming ts) code → IsSame old new → new_errors ≡ errors ++ (line, code) ∷ [] → IsAnswer (refused (state_of old) line code) a → r.check ≡ false → r.stop ≡ a.stop → r.standing ≡ standing → Goes new new_errors r s
  was_refused new code a r new_errors refusal same stored answer check stop stands =
      subst (Goes new new_errors r) seen (
        refused (state_of old) line code,
        inl (code, refusal, refl),
        ap (λ (t : State). record { state = t; number = number; evidence = evidence_of new; errors = new_errors; store = store }) (same_state old new same)
            ∙ ap (λ (kept : Evidence). record { state = state_of old; number = number; evidence = kept; errors = new_errors; store = store }) (both_same _ _ _ _ _ _ same.responses same.last same.shrunk ∙ sym (nothing_later (evidence_of old)))
            ∙ ap (λ (es : List (ℕ × ℕ)). record { state = state_of old; number = number; evidence = followed_by (evidence_of old) no_evidence; errors = es; store = store }) stored,
        check,
        stop ∙ answer.stop,
        stands,
      )
