-- What becomes of the store by a command that leaves it alone, by one that takes declarations back, and by a check.
use Rattle.std.proofs.Common.{◌≡◌, ◌∙◌, ℕ, zero, suc, Bool, true, false, true≢false, List, Option, None, Some, Result, Ok, Err, OnOk, refl, sym, ap, subst}
use Rattle.ct_sorts.specs.Declarations.{Declarations, with_function, with_definition}
use Rattle.ct_sorts.specs.Grown.{Extends}
use Rattle.ct_kept.specs.Kept.{Stored}
use Rattle.ct_formulas.specs.Formula.{Formula}
use Rattle.ct_model.specs.ModelText.{IsModelText}
use Rattle.ct_log_text.specs.Written.{expression_of_record, text_of}
use Rattle.ct_command.specs.declared.error.CommandError.{CommandError}
use Rattle.ct_command.specs.declared.error.CommandError.TheVariants.{Refused, NoMemory}
use Rattle.ct_command.specs.declared.command.Command.{Command as ReadCommand}
use Rattle.ct_command.specs.Seen.{command_seen}
use Rattle.ct_command.specs.Command.{Command, set_logic, set_option, set_diagnostic_output, get_option, set_info, get_info, declare_sort, define_sort, declare_block, declare_fun, define_fun, assert, check_sat, check_sat_assuming, push, pop, reset_assertions, reset, get_model, get_value, get_proof, get_unsat_core, get_unsat_assumptions, echo, exit, unsupported}
use Rattle.ct_engine.specs.declared.verdict.Verdict.{Verdict}
use Rattle.ct_stack.specs.Stack.{Stack, Context, declaring, in_context, named_truth, context_with, defined_in}
use Rattle.ct_stack.specs.Levels.{pushed, pushed_by}
use Rattle.ct_stack.specs.Elaborations.{synonym_body, with_synonym_of, declared_function, defined_function, asserted_formula}
use Rattle.ct_stack.specs.Refusal.{over}
use Rattle.ct_stack.specs.Values.{AreValues}
use Rattle.ct_step.specs.declared.answer.Answer.{Answer}
use Rattle.ct_step.specs.declared.state.SessionState.{SessionState}
use Rattle.ct_step.specs.declared.cores.Members.TheVariants as members
use Rattle.ct_step.specs.State.{State, context_of, declared, changed, asserted, model_kept, derivation_kept, refuted_kept, assuming_kept}
use Rattle.ct_step.specs.Step.{CommandEffect, Does, PrintsCore, quiet, said}
use Rattle.ct_step.specs.Done.{IsDone, IsSound, state_of}
use Rattle.ct_step.specs.Evidence.{Evidence}
use Rattle.ct_step.specs.Growing.{Growing}
use Rattle.ct_step.specs.Store.{IsStoreOf, IsSoundWith, Stores, IsStored}
use Rattle.ct_stack.proofs.NeededLemmas.{comes_grows}
use Rattle.ct_stack.proofs.SortLemmas.{free_extends, types_extends}
use Rattle.ct_step.proofs.SoundLemmas.{only, only_needing, only_of, prints, same_state, is_assuming, sound_still, sound_where}
use Rattle.ct_step.proofs.DoneLemmas.{seen_as}

-- the command leaves the store alone
abbrev pub rests : Command → Bool
rests check_sat = false
rests (check_sat_assuming ls) = false
rests (pop n) = false
rests reset_assertions = false
rests reset = false
rests c = true

-- so it does, whatever the last verdict is
stores_same : (s : State) (c : Command) (last : Option Verdict) (store : Stored) → rests c ≡ true → Stores s c last store store
stores_same s check_sat last store rest = absurd (true≢false (sym rest))
stores_same s (check_sat_assuming ls) last store rest = absurd (true≢false (sym rest))
stores_same s (pop n) last store rest = absurd (true≢false (sym rest))
stores_same s reset_assertions last store rest = absurd (true≢false (sym rest))
stores_same s reset last store rest = absurd (true≢false (sym rest))
stores_same s c last store rest = refl

-- so does no check with assumptions
not_assuming : (c : Command) → rests c ≡ true → is_assuming c ≡ false
not_assuming (check_sat_assuming ts) rest = absurd (true≢false (sym rest))
not_assuming c rest = refl

-- levels that are added change nothing that is declared
pushed_context : (n : ℕ) (s : Stack) → (pushed_by n s).top.context ≡ s.top.context
pushed_context zero s = refl
pushed_context (suc n) s = pushed_context n (pushed s)

module _ (g : Growing) (s : State) (e : CommandEffect) where
  -- what the effect leaves declared is this
  leaves : (t : CommandEffect) → e ≡ t → Extends (declared t.state) (declared s) → Extends (declared e.state) (declared s)
  leaves t is grown = subst (λ (x : CommandEffect). Extends (declared x.state) (declared s)) (sym is) grown

  stays : (t : CommandEffect) → e ≡ t → declared t.state ≡ declared s → Extends (declared e.state) (declared s)
  stays t is same = leaves t is (subst (λ (d : Declarations). Extends d (declared s)) (sym same) (g.itself (declared s)))

  -- a label adds a definition
  labelled : (later : Declarations) (label : Option (List ℕ)) (formula : Formula) → Extends (context_with (record (context_of s) { declarations = later }) label formula).declarations later
  labelled later None formula = g.itself later
  labelled later (Some name) formula = g.definition later (named_truth name)

  -- a core that is printed changes nothing that is declared
  printed_grown : (text : List ℕ) (kept : Evidence) → e ≡ record (said s text) { evidence = kept } → Extends (declared e.state) (declared s)
  printed_grown text kept is = stays (record (said s text) { evidence = kept }) is refl

  -- a command that leaves the store alone only adds to what is declared
  pub grown_after : (number : ℕ) (c : Command) → rests c ≡ true → Does s number c e → Extends (declared e.state) (declared s)
  grown_after number (set_logic name) rest is = stays _ is refl
  grown_after number (set_option setting) rest is = stays _ is refl
  grown_after number (set_diagnostic_output text) rest is = stays _ is refl
  grown_after number (get_option option) rest is = stays _ is refl
  grown_after number set_info rest is = stays _ is refl
  grown_after number (get_info info) rest is = stays _ is refl
  grown_after number (declare_sort name params) rest is = leaves _ is (free_extends g.sort g.head (declared s) name params)
  grown_after number (define_sort name params body) rest is =
      only (synonym_body (declared s) params body) (λ sort. e ≡ quiet (changed s (declaring s.stack (with_synonym_of (declared s) name params sort)))) (Extends (declared e.state) (declared s))
      (λ sort h. leaves (quiet (changed s (declaring s.stack (with_synonym_of (declared s) name params sort)))) h (g.synonym (declared s) name params sort)) is
  grown_after number (declare_block family heads bodies) rest is =
      leaves (quiet (changed s (declaring s.stack is.0))) is.2 (types_extends g.block (declared s) is.0 family heads bodies is.1)
  grown_after number (declare_fun name args sort) rest is =
      only_needing (λ d. declared_function d name args sort) (declared s) (λ later f. e ≡ quiet (changed s (declaring s.stack (with_function later f)))) (Extends (declared e.state) (declared s))
      (λ later f comes h. leaves (quiet (changed s (declaring s.stack (with_function later f)))) h
      (g.further (with_function later f) later (declared s) (g.function later f) (comes_grows (λ d. declared_function d name args sort) (declared s) later (Ok f) comes).extends)) is
  grown_after number (define_fun name params sort t) rest is =
      only_needing (λ d. defined_function d name params sort t) (declared s) (λ later f. e ≡ quiet (changed s (in_context s.stack (defined_in (over (context_of s) later) f)))) (Extends (declared e.state) (declared s))
      (λ later f comes h. leaves (quiet (changed s (in_context s.stack (defined_in (over (context_of s) later) f)))) h
      (g.further (with_definition later f.0) later (declared s) (g.definition later f.0) (comes_grows (λ d. defined_function d name params sort t) (declared s) later (Ok f) comes).extends)) is
  grown_after number (assert t label) rest is =
      only_needing (λ d. asserted_formula d t) (declared s) (λ later formula. e ≡ quiet (asserted s (declaring s.stack later) label formula)) (Extends (declared e.state) (declared s))
      (λ later formula comes h. leaves (quiet (asserted s (declaring s.stack later) label formula)) h
      (g.further (declared (asserted s (declaring s.stack later) label formula)) later (declared s) (labelled later label formula) (comes_grows (λ d. asserted_formula d t) (declared s) later (Ok formula) comes).extends)) is
  grown_after number check_sat rest is = absurd (true≢false (sym rest))
  grown_after number (check_sat_assuming ls) rest is = absurd (true≢false (sym rest))
  grown_after number (push n) rest is = stays _ is (ap (λ (c : Context). c.declarations) (pushed_context n s.stack))
  grown_after number (pop n) rest is = absurd (true≢false (sym rest))
  grown_after number reset_assertions rest is = absurd (true≢false (sym rest))
  grown_after number reset rest is = absurd (true≢false (sym rest))
  grown_after number get_model rest is =
      only_of (model_kept s.kept) (λ i. (text : List ℕ) × IsModelText (declared s) i text × (e ≡ said s text)) (Extends (declared e.state) (declared s)) (λ i h. stays (said s h.0) h.2 refl) is
  grown_after number (get_value ts) rest is =
      only_of (model_kept s.kept) (λ i. (text : List ℕ) × AreValues (context_of s) i ts text × (e ≡ said s text)) (Extends (declared e.state) (declared s)) (λ i h. stays (said s h.0) h.2 refl) is
  grown_after number get_proof rest is =
      only_of (derivation_kept s.kept) (λ p. e ≡ said s (text_of (expression_of_record (declared s) p.0 p.1.rec))) (Extends (declared e.state) (declared s)) (λ p h. stays (said s (text_of (expression_of_record (declared s) p.0 p.1.rec))) h refl) is
  grown_after number get_unsat_core rest is =
      only_of (refuted_kept s.kept) (λ refuted. PrintsCore s members.Names refuted e) (Extends (declared e.state) (declared s)) (λ refuted h. prints s members.Names refuted e (Extends (declared e.state) (declared s)) printed_grown h) is
  grown_after number get_unsat_assumptions rest is =
      only_of (assuming_kept s.kept) (λ refuted. PrintsCore s members.Assumptions refuted e) (Extends (declared e.state) (declared s)) (λ refuted h. prints s members.Assumptions refuted e (Extends (declared e.state) (declared s)) printed_grown h) is
  grown_after number (echo x) rest is = stays _ is refl
  grown_after number exit rest is = stays _ is refl
  grown_after number unsupported rest is = stays _ is refl

-- what becomes of the state and the store by a command
pub record Outcome (old new : SessionState) (number : ℕ) (c : Command) (r : Result Answer CommandError) (before after : Stored) : Type 0 where
  pub done : IsDone old number c new r
  pub stored : IsStored old c new r before after
  pub sound : IsSoundWith (state_of new) after

module _ (old new : SessionState) (number : ℕ) where
  -- where nothing has changed
  unchanged : (store : Stored) → state_of new ≡ state_of old → IsStoreOf (state_of old) store → IsStoreOf (state_of new) store
  unchanged store same sorted = subst (λ (s : State). IsStoreOf s store) (sym same) sorted

  -- by one that leaves the store alone
  stored_same : (c : Command) (r : Result Answer CommandError) (store : Stored) → rests c ≡ true → IsStored old c new r store store
  stored_same c (Ok a) store rest = stores_same (state_of old) c new.last store rest
  stored_same c (Err e) store rest = refl

  sorted_still : Growing → (c : Command) (r : Result Answer CommandError) (store : Stored) → rests c ≡ true → IsDone old number c new r → IsStoreOf (state_of old) store → IsStoreOf (state_of new) store
  sorted_still g c (Ok a) store rest done sorted =
      subst (λ (s : State). IsStoreOf s store) (sym done.state)
      (g.table (declared done.effect.state) (declared (state_of old)) store.table (grown_after g (state_of old) done.effect number c rest done.accepted.1) sorted)
  sorted_still g c (Err (Refused n)) store rest done sorted = unchanged store (same_state old new done.1) sorted
  sorted_still g c (Err NoMemory) store rest done sorted = unchanged store (same_state old new done) sorted

  pub apart : Growing → (r : Result Answer CommandError) (c d : ReadCommand) (store : Stored) → IsSoundWith (state_of old) store → c ≡ d → rests (command_seen d) ≡ true → IsDone old number (command_seen d) new r → Outcome old new number (command_seen c) r store store
  apart g r c d store sound is rest done =
      let own : rests (command_seen c) ≡ true = ap (λ (x : ReadCommand). rests (command_seen x)) is ∙ rest in
      let own_done : IsDone old number (command_seen c) new r = seen_as old new number r c d is done in
      record {
        done = own_done;
        stored = stored_same (command_seen c) r store own;
        sound = record {
          sound = sound_still old new number (command_seen c) r (not_assuming (command_seen c) own) own_done sound.sound;
          sorted = sorted_still g (command_seen c) r store own own_done sound.sorted;
        };
      }

  -- by another one
  pub along : (r : Result Answer CommandError) (c d : ReadCommand) (before after : Stored) → IsSoundWith (state_of old) before → c ≡ d → is_assuming (command_seen d) ≡ false → IsDone old number (command_seen d) new r → IsStored old (command_seen d) new r before after → IsStoreOf (state_of new) after → Outcome old new number (command_seen c) r before after
  along r c d before after sound is other done stored sorted =
      let own_done : IsDone old number (command_seen c) new r = seen_as old new number r c d is done in
      let own : is_assuming (command_seen c) ≡ false = ap (λ (x : ReadCommand). is_assuming (command_seen x)) is ∙ other in
      record {
        done = own_done;
        stored = subst (λ (x : ReadCommand). IsStored old (command_seen x) new r before after) (sym is) stored;
        sound = record { sound = sound_still old new number (command_seen c) r own own_done sound.sound; sorted = sorted };
      }

  -- and by a check with assumptions
  pub assuming_along : (r : Result Answer CommandError) (c d : ReadCommand) (before after : Stored) → IsSoundWith (state_of old) before → c ≡ d → OnOk r (IsSound (state_of new)) → IsDone old number (command_seen d) new r → IsStored old (command_seen d) new r before after → IsStoreOf (state_of new) after → Outcome old new number (command_seen c) r before after
  assuming_along r c d before after sound is own done stored sorted =
      let own_done : IsDone old number (command_seen c) new r = seen_as old new number r c d is done in
      record {
        done = own_done;
        stored = subst (λ (x : ReadCommand). IsStored old (command_seen x) new r before after) (sym is) stored;
        sound = record { sound = sound_where old new number (command_seen c) r own own_done sound.sound; sorted = sorted };
      }
