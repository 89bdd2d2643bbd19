use Rattle.std.proofs.Common.{◌≡◌, ◌∙◌, ℕ, List, [], ◌∷◌, ◌++◌, None, Some, refl, sym, ap, subst}
use Rattle.std.proofs.lemmas.Result.{err_from_is_err_and}
use Rattle.ct_sorts.specs.Declarations.{Declarations}
use Rattle.ct_terms.specs.Terms.{AreSorted}
use Rattle.ct_command.specs.Command.{check_sat_assuming}
use Rattle.ct_command.specs.Seen.{all_seen}
use Rattle.ct_stack.specs.Stack.{Stack}
use Rattle.ct_step.specs.Assumed.{IsDecidedAssuming}
use Rattle.ct_step.specs.declared.response.CheckResponse.{CheckResponse}
use Rattle.ct_step.specs.declared.state.SessionState.{SessionState}
use Rattle.ct_step.specs.Evidence.{response_of}
use Rattle.ct_step.specs.State.{State}
use Rattle.ct_step.specs.Step as step
use Rattle.ct_step.specs.Done.{IsAnswer}
use Rattle.ct_step.proofs.AnswerLemmas.{same_text}
use Rattle.ct_step.proofs.AskLemmas.{checked_assuming, sound_assuming, stored_assuming}
use Rattle.ct_step.proofs.DoneLemmas.{not_done, same_within}
use Rattle.ct_step.proofs.check.check_assuming.Goals as goal

pub returns-in_err-assumed : goal.returns-in_err-assumed
returns-in_err-assumed c =
    let old = c.args.state.now in
    let p = err_from_is_err_and c.from_residual-in_err-assumed.result c.from_residual-in_err-assumed.ensures.1 in
    rw (p.1, p.2)
    (record {
      done = λ number. not_done old _ number (check_sat_assuming (all_seen c.args.terms.now)) _ c.in_err-assumed.ensures.refused
          (same_within old c.decide_assuming.new.stack c.reserve.new.self c.in_err-assumed.ensures.unchanged c.in_ok-reserve.ensures.items);
      stored = c.in_err-assumed.ensures.same;
      sorted = c.in_err-assumed.ensures.sorted;
      cache = c.in_err-assumed.ensures.cache;
      sound = tt;
    })

pub returns : goal.returns
returns c =
    let old = c.args.state.now in
    let v = c.in_ok-assumed.verdict in
    let assumed = c.in_ok-assumed.assumed in
    let ts = all_seen c.args.terms.now in
    let pushed : c.push.new.self.items ≡ c.reserve.new.self.items ++ c.response_of.result ∷ [] = rw c.unwrap.ensures at c.push.ensures.items in
    let given : c.push.new.self.items ≡ old.responses.items ++ response_of v ∷ [] =
    pushed
    ∙ ap (λ (rs : List CheckResponse). rs ++ c.response_of.result ∷ []) c.in_ok-reserve.ensures.items
    ∙ ap (λ (r : CheckResponse). old.responses.items ++ r ∷ []) c.response_of.ensures.value
    in
    let is = subst (λ (b : ℕ). IsDecidedAssuming old.stack ts b c.decide_assuming.new.stack assumed.items v) c.budget-budget.ensures.value c.in_ok-assumed.ensures.decided in
    let answer : (s : State) → IsAnswer (step.said s (step.word_of v)) c.said.result = λ s. same_text s c.said.result _ _ c.put_word.ensures.word (c.said.ensures.answer s) in
    let new : SessionState =
    record old { stack = c.decide_assuming.new.stack; responses = c.push.new.self; last = Some v; kept = Some (record { assumed = assumed; number = None }) }
    in
    record {
      done = λ number. checked_assuming old new ts v assumed c.said.result is refl refl refl given refl refl refl answer number c.in_ok-assumed.ensures.accepted;
      stored = stored_assuming old new ts v assumed c.said.result is refl refl refl given refl refl refl answer c.args.store.now c.decide_assuming.new.store c.in_ok-assumed.ensures.kept;
      sorted = c.in_ok-assumed.ensures.sorted;
      cache = c.put_by.ensures.cache _ c.in_ok-assumed.ensures.cache;
      sound = sound_assuming old new ts v assumed c.said.result is refl refl refl given refl refl refl answer;
    }
