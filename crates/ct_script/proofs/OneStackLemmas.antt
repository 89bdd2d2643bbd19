-- What a command makes of the stack and the options is fixed by the stack and the options alone, and not by what was answered; so a
-- replay changes them as the commands do.
use Rattle.std.proofs.Common.{◌≡◌, ◌∙◌, ℕ, Bool, true, false, true≢false, ◌⊎◌, ◌||◌, List, [], ◌∷◌, ◌++◌, Option, None, Some, Ok, Err, append_assoc, refl, sym, ap, subst, inl, inr}
use Rattle.std.specs.Bool.{MatchBool}
use Rattle.std.proofs.lemmas.Option.{none-some, same_Some}
use Rattle.ct_formulas.specs.Formula.{Formula}
use Rattle.ct_names.specs.Outcome.{Outcome, Elaborated}
use Rattle.ct_sorts.specs.Declarations.{Declarations, with_function}
use Rattle.ct_model.specs.ModelText.{IsModelText}
use Rattle.ct_log_text.specs.Written.{expression_of_record, text_of}
use Rattle.ct_sexpr.specs.Expression.{Expression}
use Rattle.ct_sexpr.specs.Text.{Located, Ending}
use Rattle.ct_command.specs.Command.{Command, define_sort, declare_block, declare_fun, define_fun, assert, check_sat, check_sat_assuming, get_model, get_value, get_proof, get_unsat_core, get_unsat_assumptions}
use Rattle.ct_command.specs.Reading.{Read, command}
use Rattle.ct_step.specs.Evidence.{Evidence, no_evidence, followed_by}
use Rattle.ct_step.proofs.EvidenceLemmas.{nothing_earlier, followed_assoc}
use Rattle.ct_stack.specs.Stack.{Stack, declaring, in_context, asserting_as, defined_in}
use Rattle.ct_stack.specs.Assuming.{assumptions}
use Rattle.ct_stack.specs.Outcomes.{Gives, GivesNeeding}
use Rattle.ct_stack.specs.Elaborations.{synonym_body, with_synonym_of, declared_function, defined_function, asserted_formula}
use Rattle.ct_stack.specs.Refusal.{over}
use Rattle.ct_stack.specs.Theorems.{AddSame}
use Rattle.ct_stack.specs.Values.{AreValues}
use Rattle.ct_step.specs.declared.options.Options.{Options}
use Rattle.ct_script.specs.declared.replay.Replayed.{Replayed}
use Rattle.ct_script.specs.declared.replay.Standing.{Standing}
use Rattle.ct_step.specs.declared.cores.Members.TheVariants as members
use Rattle.ct_step.specs.State.{State, Kept, declared, with_declarations, context_of, changed, asserted, model_kept, derivation_kept, refuted_kept, assuming_kept}
use Rattle.ct_step.specs.Refusal.{IsRefusal}
use Rattle.ct_step.specs.Rehearsal.{CanAssume, Rehearses, RehearsesAs, RehearsesAssuming, assumed_terms}
use Rattle.ct_step.specs.Step.{CommandEffect, Does, DecidesAssuming, IsRefused, Steps, PrintsCore, said, quiet, Step, counted, counted_by, one_more}
use Rattle.ct_script.specs.Answers.{Answers, Leads, IsSilent, IsFollowed, errors_of, lines_of}
use Rattle.ct_script.specs.Session.{Course}
use Rattle.ct_script.specs.Replay.{is_check, awaits_verdict, hangs, is_undecided, IsCounted, IsPassedOver, IsStepped, Replays, GoesThrough, HaveOneStack, AnswersThrough, EndsUndecided}
use Rattle.ct_stack.proofs.BlockLemmas.{one_types}
use Rattle.ct_stack.proofs.NeededLemmas.{one_value}
use Rattle.ct_step.proofs.SoundLemmas.{only, only_of, prints}

-- both effects leave one stack and the same options, and both end the script, or neither
abbrev pub AreAlike : CommandEffect → CommandEffect → Type 0
AreAlike e f = HaveOneStack e.state f.state × (f.stop ≡ e.stop)

-- the effect leaves the stack and the options
abbrev pub Rests : State → CommandEffect → Type 0
Rests s e = HaveOneStack s e.state

-- what equals alike effects is alike
alike : {a b : CommandEffect} (e f : CommandEffect) → e ≡ a → f ≡ b → b.state.stack ≡ a.state.stack → b.state.options ≡ a.state.options → b.stop ≡ a.stop → AreAlike e f
alike {a = a} {b = b} e f is same stack options stop =
    subst (λ (x : CommandEffect). AreAlike x f) (sym is) (subst (λ (y : CommandEffect). AreAlike a y) (sym same) (record { stack = stack; options = options }, stop))

-- what equals an effect that rests does so too
rests : {a : CommandEffect} (s : State) (e : CommandEffect) → e ≡ a → a.state.stack ≡ s.stack → a.state.options ≡ s.options → Rests s e
rests s e is stack options = subst (Rests s) (sym is) (record { stack = stack; options = options })

-- the command only asks for something, or is a check without assumptions
abbrev pub asks : Command → Bool
asks check_sat = true
asks get_model = true
asks (get_value ts) = true
asks get_proof = true
asks get_unsat_core = true
asks get_unsat_assumptions = true
asks c = false

-- then it leaves the stack and the options
done_rests : (s : State) (number : ℕ) (c : Command) (e : CommandEffect) → asks c ≡ true → Does s number c e → Rests s e
done_rests s number check_sat e asking is = rests s e is.2 refl refl
done_rests s number get_model e asking is = only_of (model_kept s.kept) (λ i. (text : List ℕ) × IsModelText (declared s) i text × (e ≡ said s text)) (Rests s e) (λ i h. rests s e h.2 refl refl) is
done_rests s number (get_value ts) e asking is = only_of (model_kept s.kept) (λ i. (text : List ℕ) × AreValues (context_of s) i ts text × (e ≡ said s text)) (Rests s e) (λ i h. rests s e h.2 refl refl) is
done_rests s number get_proof e asking is = only_of (derivation_kept s.kept) (λ p. e ≡ said s (text_of (expression_of_record (declared s) p.0 p.1.rec))) (Rests s e) (λ p h. rests s e h refl refl) is
done_rests s number get_unsat_core e asking is = only_of (refuted_kept s.kept) (λ refuted. PrintsCore s members.Names refuted e) (Rests s e) (λ refuted h. prints s members.Names refuted e (Rests s e) (λ text kept printed. rests s e printed refl refl) h) is
done_rests s number get_unsat_assumptions e asking is = only_of (assuming_kept s.kept) (λ refuted. PrintsCore s members.Assumptions refuted e) (Rests s e) (λ refuted h. prints s members.Assumptions refuted e (Rests s e) (λ text kept printed. rests s e printed refl refl) h) is
done_rests s number c e asking is = absurd (true≢false (sym asking))

-- where it is refused too
asking_rests : (s : State) (number line : ℕ) (c : Command) (e : CommandEffect) → asks c ≡ true → Steps s number line (Ok c) e → Rests s e
asking_rests s number line c e asking (inl h) = rests s e h.2 refl refl
asking_rests s number line c e asking (inr h) = done_rests s number c e asking h.1

-- a state with other labels and another diagnostic channel, which keeps something else
abbrev beside : State → List (Option (List ℕ)) → List ℕ → Option Kept → State
beside s labels channel kept = record s { labels = labels; diagnostic_output = channel; kept = kept }

module _ (s : State) (labels : List (Option (List ℕ))) (channel : List ℕ) (kept : Option Kept) where
  -- every other command is refused whatever was kept
  refused_too : (c : Command) (n : ℕ) → asks c ≡ false → IsRefusal s c n → IsRefusal (beside s labels channel kept) c n
  refused_too check_sat n other h = absurd (true≢false other)
  refused_too get_model n other h = absurd (true≢false other)
  refused_too (get_value ts) n other h = absurd (true≢false other)
  refused_too get_proof n other h = absurd (true≢false other)
  refused_too get_unsat_core n other h = absurd (true≢false other)
  refused_too get_unsat_assumptions n other h = absurd (true≢false other)
  refused_too c n other h = h

  -- a stack that is formed
  formed : {X : Type 0} (o : Outcome X) (stack : X → Stack) (e f : CommandEffect) → Gives o (λ x. e ≡ quiet (changed s (stack x))) → Gives o (λ x. f ≡ quiet (changed (beside s labels channel kept) (stack x))) → AreAlike e f
  formed (Ok x) stack e f is same = alike e f is same refl refl refl
  formed (Err n) stack e f is same = absurd is

  -- one that is formed with the sorts that it needs
  formed_needing : {X : Type 0} → AddSame → (o : Declarations → Elaborated X) (d : Declarations) (stack : Declarations → X → Stack) (e f : CommandEffect) → GivesNeeding o d (λ later x. e ≡ quiet (changed s (stack later x))) → GivesNeeding o d (λ later x. f ≡ quiet (changed (beside s labels channel kept) (stack later x))) → AreAlike e f
  formed_needing {X} add_same o d stack e f (later, x, comes, is) (last, y, also, same) =
      let one = one_value add_same o d later last x y comes also in
      alike e f is same (ap (λ (n : Declarations). stack n y) one.0 ∙ ap (λ (z : X). stack later z) one.1) refl refl

  -- one that is asserted with a label
  asserted_alike : AddSame → (label : Option (List ℕ)) → (o : Declarations → Elaborated Formula) (d : Declarations) (e f : CommandEffect) → GivesNeeding o d (λ later x. e ≡ quiet (asserted s (declaring s.stack later) label x)) → GivesNeeding o d (λ later x. f ≡ quiet (asserted (beside s labels channel kept) (declaring s.stack later) label x)) → AreAlike e f
  asserted_alike add_same label o d e f (later, x, comes, is) (last, y, also, same) =
      let one = one_value add_same o d later last x y comes also in
      alike e f is same
      (ap (λ (n : Declarations). asserting_as (declaring s.stack n) label y) one.0 ∙ ap (λ (z : Formula). asserting_as (declaring s.stack later) label z) one.1) refl refl

  -- one that is checked with assumptions
  assumed_alike : AddSame → (ts : List Expression) (e f : CommandEffect) → GivesNeeding (λ d. assumptions d ts) (declared s) (λ later x. DecidesAssuming (with_declarations s later) x e) → GivesNeeding (λ d. assumptions d ts) (declared s) (λ later x. DecidesAssuming (with_declarations (beside s labels channel kept) later) x f) → AreAlike e f
  assumed_alike add_same ts e f (later, x, comes, (v, right, is)) (last, y, also, (w, right_too, same)) =
      alike e f is same (ap (λ (n : Declarations). declaring s.stack n) (one_value add_same (λ d. assumptions d ts) (declared s) later last x y comes also).0) refl refl

  -- or gone through without a verdict
  rehearsed_alike : AddSame → (ts : List Expression) (line : ℕ) (e f : CommandEffect) → IsRefused s line (check_sat_assuming ts) e ⊎ (CanAssume s ts × GivesNeeding (λ d. assumptions d ts) (declared s) (λ later x. DecidesAssuming (with_declarations s later) x e)) → RehearsesAssuming (beside s labels channel kept) line ts f → AreAlike e f
  rehearsed_alike add_same ts line e f (inl h) (inl k) = alike e f h.2 k.2 refl refl refl
  rehearsed_alike add_same ts line e f (inl h) (inr k) = absurd (k.0 h.0 h.1)
  rehearsed_alike add_same ts line e f (inr h) (inl k) = absurd (h.0 k.0 k.1)
  rehearsed_alike add_same ts line e f (inr (accepted, (later, x, comes, (v, right, is)))) (inr (accepted_too, (state, (last, y, also, same), quietly))) =
      alike e f is quietly
      (ap (λ (t : State). t.stack) same ∙ ap (λ (n : Declarations). declaring s.stack n) (one_value add_same (λ d. assumptions d ts) (declared s) later last x y comes also).0)
      (ap (λ (t : State). t.options) same) refl

  -- and does the same
  done_alike : AddSame → (number count : ℕ) (c : Command) (e f : CommandEffect) → asks c ≡ false → Does s number c e → Does (beside s labels channel kept) count c f → AreAlike e f
  done_alike add_same number count (define_sort name params body) e f other is same = formed (synonym_body (declared s) params body) (λ x. declaring s.stack (with_synonym_of (declared s) name params x)) e f is same
  done_alike add_same number count (declare_block family heads bodies) e f other is same = alike e f is.2 same.2 (ap (λ (d : Declarations). declaring s.stack d) (one_types add_same (declared s) family heads bodies is.0 same.0 is.1 same.1)) refl refl
  done_alike add_same number count (declare_fun name args sort) e f other is same = formed_needing add_same (λ d. declared_function d name args sort) (declared s) (λ later x. declaring s.stack (with_function later x)) e f is same
  done_alike add_same number count (define_fun name params sort t) e f other is same = formed_needing add_same (λ d. defined_function d name params sort t) (declared s) (λ later x. in_context s.stack (defined_in (over (context_of s) later) x)) e f is same
  done_alike add_same number count (assert t label) e f other is same = asserted_alike add_same label (λ d. asserted_formula d t) (declared s) e f is same
  done_alike add_same number count check_sat e f other is same = absurd (true≢false other)
  done_alike add_same number count get_model e f other is same = absurd (true≢false other)
  done_alike add_same number count (get_value ts) e f other is same = absurd (true≢false other)
  done_alike add_same number count get_proof e f other is same = absurd (true≢false other)
  done_alike add_same number count (check_sat_assuming ts) e f other is same = assumed_alike add_same ts e f is same
  done_alike add_same number count get_unsat_core e f other is same = absurd (true≢false other)
  done_alike add_same number count get_unsat_assumptions e f other is same = absurd (true≢false other)
  done_alike add_same number count c e f other is same = alike e f is same refl refl refl

-- so it does where it is refused too
other_alike : AddSame → (s : State) (labels : List (Option (List ℕ))) (channel : List ℕ) (kept : Option Kept) (number count line : ℕ) (c : Command) (e f : CommandEffect) → asks c ≡ false → Steps s number line (Ok c) e → Steps (beside s labels channel kept) count line (Ok c) f → AreAlike e f
other_alike add_same s labels channel kept number count line c e f other (inl h) (inl k) = alike e f h.2 k.2 refl refl refl
other_alike add_same s labels channel kept number count line c e f other (inl h) (inr k) = absurd (k.0 h.0 (refused_too s labels channel kept c h.0 other h.1))
other_alike add_same s labels channel kept number count line c e f other (inr h) (inl k) = absurd (h.0 k.0 (refused_too (beside s labels channel kept) s.labels s.diagnostic_output s.kept c k.0 other k.1))
other_alike add_same s labels channel kept number count line c e f other (inr h) (inr k) = done_alike s labels channel kept add_same number count c e f other h.1 k.1

-- effects that rest leave one stack
resting : (s : State) (labels : List (Option (List ℕ))) (channel : List ℕ) (kept : Option Kept) (e f : CommandEffect) → Rests s e → Rests (beside s labels channel kept) f → HaveOneStack e.state f.state
resting s labels channel kept e f h k = record { stack = k.stack ∙ sym h.stack; options = k.options ∙ sym h.options }

-- a command, whether it asks or not
command_one : AddSame → (s : State) (labels : List (Option (List ℕ))) (channel : List ℕ) (kept : Option Kept) (number count line : ℕ) (c : Command) (e f : CommandEffect) (asking : Bool) → asks c ≡ asking → Steps s number line (Ok c) e → Steps (beside s labels channel kept) count line (Ok c) f → HaveOneStack e.state f.state
command_one add_same s labels channel kept number count line c e f true is h k = resting s labels channel kept e f (asking_rests s number line c e is h) (asking_rests (beside s labels channel kept) count line c f is k)
command_one add_same s labels channel kept number count line c e f false is h k = (other_alike add_same s labels channel kept number count line c e f is h k).0

-- what was read, whether it is a command or not
read_one : AddSame → (s : State) (labels : List (Option (List ℕ))) (channel : List ℕ) (kept : Option Kept) (number count line : ℕ) (read : Read) (e f : CommandEffect) → Steps s number line read e → Steps (beside s labels channel kept) count line read f → HaveOneStack e.state f.state
read_one add_same s labels channel kept number count line (Err n) e f h k = (alike e f h k refl refl refl).0
read_one add_same s labels channel kept number count line (Ok c) e f h k = command_one add_same s labels channel kept number count line c e f (asks c) refl h k

-- what asks is a check or awaits a verdict
asks_undecided : (c : Command) → asks c ≡ is_undecided (Ok c)
asks_undecided check_sat = refl
asks_undecided get_model = refl
asks_undecided (get_value ts) = refl
asks_undecided get_proof = refl
asks_undecided get_unsat_core = refl
asks_undecided get_unsat_assumptions = refl
asks_undecided c = refl

-- and everything else ends the script whatever was kept
read_stops : AddSame → (s : State) (labels : List (Option (List ℕ))) (channel : List ℕ) (kept : Option Kept) (number count line : ℕ) (read : Read) (e f : CommandEffect) → is_undecided read ≡ false → Steps s number line read e → Steps (beside s labels channel kept) count line read f → f.stop ≡ e.stop
read_stops add_same s labels channel kept number count line (Err n) e f decided h k = (alike e f h k refl refl refl).1
read_stops add_same s labels channel kept number count line (Ok c) e f decided h k = (other_alike add_same s labels channel kept number count line c e f (asks_undecided c ∙ decided) h k).1

-- the second state is the first with its own labels and channel and what it has kept itself
same_beside : (s t : State) → HaveOneStack s t → beside s t.labels t.diagnostic_output t.kept ≡ t
same_beside s t one = sym (
    ap (λ (stack : Stack). record { stack = stack; labels = t.labels; options = t.options; diagnostic_output = t.diagnostic_output; kept = t.kept }) one.stack
    ∙ ap (λ (options : Options). record { stack = s.stack; labels = t.labels; options = options; diagnostic_output = t.diagnostic_output; kept = t.kept }) one.options
    )

module _ (add_same : AddSame) (s t : State) (number count line : ℕ) (read : Read) (e f : CommandEffect) (one : HaveOneStack s t) (h : Steps s number line read e) (k : Steps t count line read f) where
  besides : Steps (beside s t.labels t.diagnostic_output t.kept) count line read f
  besides = subst (λ (x : State). Steps x count line read f) (sym (same_beside s t one)) k

  -- one stack and one list of options lead to one stack and one list of options
  pub steps_one : HaveOneStack e.state f.state
  steps_one = read_one add_same s t.labels t.diagnostic_output t.kept number count line read e f h besides

  -- and to the end of the script
  pub steps_stop : is_undecided read ≡ false → f.stop ≡ e.stop
  steps_stop decided = read_stops add_same s t.labels t.diagnostic_output t.kept number count line read e f decided h besides

-- a check only asks
check_asks : (c : Command) → is_check (Ok c) ≡ true → asks c ≡ true
check_asks check_sat check = refl
check_asks c check = absurd (true≢false (sym check))

-- so it leaves the stack and the options
pub check_rests : (s : State) (number line : ℕ) (read : Read) (e : CommandEffect) → is_check read ≡ true → Steps s number line read e → HaveOneStack s e.state
check_rests s number line (Err n) e check h = absurd (true≢false (sym check))
check_rests s number line (Ok c) e check h = asking_rests s number line c e (check_asks c check) h

-- what awaits a verdict only asks too
awaiting_asks : (c : Command) → awaits_verdict (Ok c) ≡ true → asks c ≡ true
awaiting_asks get_model awaits = refl
awaiting_asks (get_value ts) awaits = refl
awaiting_asks get_proof awaits = refl
awaiting_asks get_unsat_core awaits = refl
awaiting_asks get_unsat_assumptions awaits = refl
awaiting_asks c awaits = absurd (true≢false (sym awaits))

awaiting_rests : (s : State) (number line : ℕ) (read : Read) (e : CommandEffect) → awaits_verdict read ≡ true → Steps s number line read e → HaveOneStack s e.state
awaiting_rests s number line (Err n) e awaits h = absurd (true≢false (sym awaits))
awaiting_rests s number line (Ok c) e awaits h = asking_rests s number line c e (awaiting_asks c awaits) h

-- and what hangs on one awaits it
hanging_awaits : (standing : Standing) (read : Read) → hangs standing read ≡ true → awaits_verdict read ≡ true
hanging_awaits standing (Ok get_model) hanging = refl
hanging_awaits standing (Ok (get_value ts)) hanging = refl
hanging_awaits standing (Ok get_proof) hanging = refl
hanging_awaits standing (Ok get_unsat_core) hanging = refl
hanging_awaits standing (Ok get_unsat_assumptions) hanging = refl
hanging_awaits standing (Ok c) hanging = absurd (true≢false (sym hanging))
hanging_awaits standing (Err n) hanging = absurd (true≢false (sym hanging))

-- neither is decided
check_undecided : (read : Read) → is_check read ≡ true → is_undecided read ≡ true
check_undecided read check = ap (λ (b : Bool). b || awaits_verdict read) check

or_true : (a : Bool) → (a || true) ≡ true
or_true true = refl
or_true false = refl

awaiting_undecided : (read : Read) → awaits_verdict read ≡ true → is_undecided read ≡ true
awaiting_undecided read awaits = ap (λ (b : Bool). is_check read || b) awaits ∙ or_true (is_check read)

-- what was read is a check with assumptions, by what it assumes
assumed_is : (read : Read) (ts : List Expression) → assumed_terms read ≡ Some ts → read ≡ Ok (check_sat_assuming ts)
assumed_is (Ok (check_sat_assuming us)) ts is = ap (λ (xs : List Expression). Ok (check_sat_assuming xs)) (same_Some us ts is)
assumed_is (Ok c) ts is = absurd (none-some ts is)
assumed_is (Err n) ts is = absurd (none-some ts is)

-- what is gone through without a verdict leaves one stack with its step, and ends the script with it
module _ (add_same : AddSame) (s t : State) (number count line : ℕ) (read : Read) (e f : CommandEffect) (one : HaveOneStack s t) (h : Steps s number line read e) where
  rehearsed_as : (terms : Option (List Expression)) → assumed_terms read ≡ terms → RehearsesAs terms t count line read f → HaveOneStack e.state f.state × (is_undecided read ≡ false → f.stop ≡ e.stop)
  rehearsed_as None is k = (steps_one add_same s t number count line read e f one h k, λ decided. steps_stop add_same s t number count line read e f one h k decided)
  rehearsed_as (Some ts) is k =
      let own : Steps s number line (Ok (check_sat_assuming ts)) e = subst (λ (r : Read). Steps s number line r e) (assumed_is read ts is) h in
      let besides = subst (λ (x : State). RehearsesAssuming x line ts f) (sym (same_beside s t one)) k in
      let both = rehearsed_alike s t.labels t.diagnostic_output t.kept add_same ts line e f own besides in
      (both.0, λ decided. both.1)

  pub rehearsed_one : Rehearses t count line read f → HaveOneStack e.state f.state × (is_undecided read ≡ false → f.stop ≡ e.stop)
  rehearsed_one k = rehearsed_as (assumed_terms read) refl k

-- what is read is replayed beside its step
module _ (add_same : AddSame) (s : State) (number : ℕ) (old new : Course) (standing : Standing) (line : ℕ) (read : Read) (e : CommandEffect) (r : Replayed) (one : HaveOneStack s old.state) (steps : Steps s number line read e) where
  -- one stack, and one end where no verdict matters
  abbrev IsAlike : Type 0
  IsAlike = HaveOneStack e.state new.state × (is_undecided read ≡ false → r.stop ≡ e.stop)

  -- where the replay changes nothing, as the step does
  left_alone : Rests s e → new.state ≡ old.state → is_undecided read ≡ true → IsAlike
  left_alone rest state undecided = (
    record {
      stack = ap (λ (x : State). x.stack) state ∙ one.stack ∙ sym rest.stack;
      options = ap (λ (x : State). x.options) state ∙ one.options ∙ sym rest.options;
    },
    λ decided. absurd (true≢false (sym undecided ∙ decided)),
  )

  replayed_otherwise : (hanging : Bool) → hangs standing read ≡ hanging → MatchBool hanging (IsPassedOver old standing new r) (IsStepped old standing line read new r) → IsAlike
  replayed_otherwise true hanging (is, checked, stop, stands) =
      let awaits = hanging_awaits standing read hanging in
      left_alone (awaiting_rests s number line read e awaits steps) (ap (λ (c : Course). c.state) is) (awaiting_undecided read awaits)
  replayed_otherwise false hanging (f, stepped, is, checked, stop, stands) =
      let both = rehearsed_one add_same s old.state number old.number line read e f one steps stepped in (
        subst (λ (x : State). HaveOneStack e.state x) (sym (ap (λ (c : Course). c.state) is)) both.0,
        λ decided. stop ∙ both.1 decided,
      )

  replayed_by : (check : Bool) → is_check read ≡ check → MatchBool check (IsCounted old new r) (MatchBool (hangs standing read) (IsPassedOver old standing new r) (IsStepped old standing line read new r)) → IsAlike
  replayed_by true check (is, checked, stop, stands) = left_alone (check_rests s number line read e check steps) (ap (λ (c : Course). c.state) is) (check_undecided read check)
  replayed_by false check h = replayed_otherwise (hangs standing read) refl h

  pub replayed_alike : Replays old standing line read new r → IsAlike
  replayed_alike h = replayed_by (is_check read) refl h

-- a command that is no check is not counted
uncounted : (number : ℕ) (read : Read) → is_check read ≡ false → counted_by number read ≡ number
uncounted number (Err n) other = refl
uncounted number (Ok check_sat) other = absurd (true≢false other)
uncounted number (Ok c) other = refl

-- and a check is
check_counted : (number : ℕ) (read : Read) → is_check read ≡ true → counted_by number read ≡ one_more number
check_counted number (Err n) check = absurd (true≢false (sym check))
check_counted number (Ok check_sat) check = refl
check_counted number (Ok c) check = absurd (true≢false (sym check))

-- so the checks are counted
counted_otherwise : (old new : Course) (standing : Standing) (line : ℕ) (read : Read) (r : Replayed) (hanging : Bool) → is_check read ≡ false → MatchBool hanging (IsPassedOver old standing new r) (IsStepped old standing line read new r) → new.number ≡ counted_by old.number read
counted_otherwise old new standing line read r true other (is, checked, stop, stands) = ap (λ (c : Course). c.number) is ∙ sym (uncounted old.number read other)
counted_otherwise old new standing line read r false other (f, stepped, is, checked, stop, stands) = ap (λ (c : Course). c.number) is ∙ sym (uncounted old.number read other)

counted_with_check : (old new : Course) (standing : Standing) (line : ℕ) (read : Read) (r : Replayed) (check : Bool) → is_check read ≡ check → MatchBool check (IsCounted old new r) (MatchBool (hangs standing read) (IsPassedOver old standing new r) (IsStepped old standing line read new r)) → new.number ≡ counted_by old.number read
counted_with_check old new standing line read r true check (is, checked, stop, stands) = ap (λ (c : Course). c.number) is ∙ sym (check_counted old.number read check)
counted_with_check old new standing line read r false check h = counted_otherwise old new standing line read r (hangs standing read) check h

pub replayed_counted : (old new : Course) (standing : Standing) (line : ℕ) (read : Read) (r : Replayed) → Replays old standing line read new r → new.number ≡ counted_by old.number read
replayed_counted old new standing line read r h = counted_with_check old new standing line read r (is_check read) refl h

-- what is told of a check
told_otherwise : (old new : Course) (standing : Standing) (line : ℕ) (read : Read) (r : Replayed) (hanging : Bool) → MatchBool hanging (IsPassedOver old standing new r) (IsStepped old standing line read new r) → r.check ≡ false
told_otherwise old new standing line read r true (is, checked, stop, stands) = checked
told_otherwise old new standing line read r false (f, stepped, is, checked, stop, stands) = checked

told_by : (old new : Course) (standing : Standing) (line : ℕ) (read : Read) (r : Replayed) (check : Bool) → is_check read ≡ check → MatchBool check (IsCounted old new r) (MatchBool (hangs standing read) (IsPassedOver old standing new r) (IsStepped old standing line read new r)) → r.check ≡ is_check read
told_by old new standing line read r true check (is, checked, stop, stands) = checked ∙ sym check
told_by old new standing line read r false check h = told_otherwise old new standing line read r (hangs standing read) h ∙ sym check

pub replayed_told : (old new : Course) (standing : Standing) (line : ℕ) (read : Read) (r : Replayed) → Replays old standing line read new r → r.check ≡ is_check read
replayed_told old new standing line read r h = told_by old new standing line read r (is_check read) refl h

-- commands that lead to a state
pub leads_alike : AddSame → (s last : State) (number count : ℕ) (cs : List Located) (kept : Evidence) (errors : List (ℕ × ℕ)) (lines : List (List ℕ)) (old new : Course) (standing : Standing) → Leads s number cs last count kept errors lines → GoesThrough old standing cs new → HaveOneStack s old.state → HaveOneStack last new.state
leads_alike add_same s last number count [] kept errors lines old new standing leads through one =
    subst (λ (x : State). HaveOneStack x new.state) (sym leads.0)
    (subst (λ (c : Course). HaveOneStack s c.state) (sym through) one)
leads_alike add_same s last number count (c ∷ cs) kept errors lines old new standing (e, vs, es, ls, step, followed, goes_on, leads) (next, r, replays, on, through) one =
    leads_alike add_same e.state last (counted_by number (command c.command)) count cs vs es ls next new r.standing leads through
    (replayed_alike add_same s (counted_by number (command c.command)) old next standing c.line (command c.command) e r one step replays).0

-- and the number of checks
pub leads_counted : (s last : State) (number count : ℕ) (cs : List Located) (kept : Evidence) (errors : List (ℕ × ℕ)) (lines : List (List ℕ)) (old new : Course) (standing : Standing) → Leads s number cs last count kept errors lines → GoesThrough old standing cs new → old.number ≡ number → new.number ≡ count
leads_counted s last number count [] kept errors lines old new standing leads through same = ap (λ (c : Course). c.number) through ∙ same ∙ sym leads.1
leads_counted s last number count (c ∷ cs) kept errors lines old new standing (e, vs, es, ls, step, followed, goes_on, leads) (next, r, replays, on, through) same =
    leads_counted e.state last (counted_by number (command c.command)) count cs vs es ls next new r.standing leads through
    (replayed_counted old next standing c.line (command c.command) r replays ∙ ap (λ (n : ℕ). counted_by n (command c.command)) same)

-- answers through the commands after one that does not end the script
through_one : (s : State) (number : ℕ) (c : Located) (first others : List Located) (ending : Ending) (kept vs : Evidence) (errors es : List (ℕ × ℕ)) (lines ls : List (List ℕ)) (e : CommandEffect) (last : State) (count : ℕ) → Step s number c.line c.command e → IsFollowed c.line e kept vs errors es lines ls → e.stop ≡ false → AnswersThrough e.state (counted number c.command) first others ending vs es ls last count → AnswersThrough s number (c ∷ first) others ending kept errors lines last count
through_one s number c first others ending kept vs errors es lines ls e last count step followed goes_on later = record {
  first_kept = followed_by e.evidence later.first_kept;
  later_kept = later.later_kept;
  first_errors = errors_of c.line e.error ++ later.first_errors;
  later_errors = later.later_errors;
  first_lines = lines_of e.text ++ later.first_lines;
  later_lines = later.later_lines;
  leads = (e, later.first_kept, later.first_errors, later.first_lines, step, record { kept_is = refl; errors_are = refl; lines_are = refl }, goes_on, later.leads);
  answers = later.answers;
  kept_is = followed.kept_is ∙ ap (λ (xs : Evidence). followed_by e.evidence xs) later.kept_is ∙ sym (followed_assoc e.evidence later.first_kept later.later_kept);
  errors_are = followed.errors_are ∙ ap (λ (xs : List (ℕ × ℕ)). errors_of c.line e.error ++ xs) later.errors_are ∙ sym (append_assoc (errors_of c.line e.error) later.first_errors later.later_errors);
  lines_are = followed.lines_are ∙ ap (λ (xs : List (List ℕ)). lines_of e.text ++ xs) later.lines_are ∙ sym (append_assoc (lines_of e.text) later.first_lines later.later_lines);
}

-- an outcome of answers to commands that a replay goes through: they go through them too, or end at one of these
abbrev pub GoOrEnd : State → ℕ → List Located → List Located → Ending → Evidence → List (ℕ × ℕ) → List (List ℕ) → Type 0
GoOrEnd s number first others ending kept errors lines =
    ((last : State) × (count : ℕ) × AnswersThrough s number first others ending kept errors lines last count) ⊎ EndsUndecided s number first kept errors lines

-- after the first of these commands
module _ (s : State) (number : ℕ) (c : Located) (first others : List Located) (ending : Ending) (kept vs : Evidence) (errors es : List (ℕ × ℕ)) (lines ls : List (List ℕ)) (e : CommandEffect) (step : Step s number c.line c.command e) (followed : IsFollowed c.line e kept vs errors es lines ls) where
  abbrev Rest : Bool → Type 0
  Rest stop = MatchBool stop (IsSilent vs es ls) (Answers e.state (counted number c.command) (first ++ others) ending vs es ls)

  abbrev Ends : Bool → Type 0
  Ends stop = MatchBool stop ((is_undecided (command c.command) ≡ true) × IsSilent vs es ls) (EndsUndecided e.state (counted number c.command) first vs es ls)

  ends_with : (stop : Bool) → e.stop ≡ stop → Ends stop → GoOrEnd s number (c ∷ first) others ending kept errors lines
  ends_with stop is ends = inr (e, vs, es, ls, step, followed, subst Ends (sym is) ends)

  goes_on : e.stop ≡ false → GoOrEnd e.state (counted number c.command) first others ending vs es ls → GoOrEnd s number (c ∷ first) others ending kept errors lines
  goes_on on (inl later) = inl (later.0, later.1, through_one s number c first others ending kept vs errors es lines ls e later.0 later.1 step followed on later.2)
  goes_on on (inr ends) = ends_with false on ends

  -- where the replay goes on
  by_end : (r : Replayed) → r.stop ≡ false → (is_undecided (command c.command) ≡ false → r.stop ≡ e.stop) → (Answers e.state (counted number c.command) (first ++ others) ending vs es ls → GoOrEnd e.state (counted number c.command) first others ending vs es ls) → (stop : Bool) → e.stop ≡ stop → Rest stop → (undecided : Bool) → is_undecided (command c.command) ≡ undecided → GoOrEnd s number (c ∷ first) others ending kept errors lines
  by_end r on alike later false is rest undecided either = goes_on is (later rest)
  by_end r on alike later true is rest true either = ends_with true is (either, rest)
  by_end r on alike later true is rest false either = absurd (true≢false (sym is ∙ sym (alike either) ∙ on))

-- answers begin with those to the commands that a replay goes through, or end at one of them
pub answers_through : AddSame → (s : State) (number : ℕ) (first others : List Located) (ending : Ending) (kept : Evidence) (errors : List (ℕ × ℕ)) (lines : List (List ℕ)) (old new : Course) (standing : Standing) → Answers s number (first ++ others) ending kept errors lines → GoesThrough old standing first new → HaveOneStack s old.state → GoOrEnd s number first others ending kept errors lines
answers_through add_same s number [] others ending kept errors lines old new standing answers through one = inl (
  s,
  number,
  record {
    first_kept = no_evidence;
    later_kept = kept;
    first_errors = [];
    later_errors = errors;
    first_lines = [];
    later_lines = lines;
    leads = (refl, refl, record { nothing_kept = refl; no_error = refl; no_line = refl });
    answers = answers;
    kept_is = sym (nothing_earlier kept);
    errors_are = refl;
    lines_are = refl;
  },
)
answers_through add_same s number (c ∷ first) others ending kept errors lines old new standing (e, vs, es, ls, step, followed, rest) (next, r, replays, on, through) one =
    let count : ℕ = counted number c.command in
    let same = replayed_alike add_same s count old next standing c.line (command c.command) e r one step replays in
    by_end s number c first others ending kept vs errors es lines ls e step followed r on same.1
    (λ more. answers_through add_same e.state count first others ending vs es ls next new r.standing more through same.0)
    e.stop refl rest (is_undecided (command c.command)) refl
