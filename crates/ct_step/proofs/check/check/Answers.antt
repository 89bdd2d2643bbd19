use Rattle.std.proofs.Common.{◌≡◌, ◌∙◌, ℕ, List, [], ◌∷◌, ◌++◌, Some, refl, ap, subst}
use Rattle.ct_stack.specs.Stack.{in_force}
use Rattle.ct_step.specs.declared.response.CheckResponse.{CheckResponse}
use Rattle.ct_step.specs.declared.state.SessionState.{SessionState}
use Rattle.ct_step.specs.Evidence.{response_of}
use Rattle.ct_step.specs.Verdict.{ComesTo}
use Rattle.ct_step.proofs.AnswerLemmas.{same_text}
use Rattle.ct_step.proofs.AskLemmas.{checked}
use Rattle.ct_step.proofs.check.check.Goals as goal

pub returns : goal.returns
returns c =
    let v = c.in_ok-verdict.verdict in
    let pushed : c.push.new.self.items ≡ c.reserve.new.self.items ++ c.response_of.result ∷ [] = rw c.unwrap.ensures at c.push.ensures.items in
    let given : c.push.new.self.items ≡ c.args.state.now.responses.items ++ response_of v ∷ [] =
    pushed
    ∙ ap (λ (rs : List CheckResponse). rs ++ c.response_of.result ∷ []) c.in_ok-reserve.ensures.items
    ∙ ap (λ (r : CheckResponse). c.args.state.now.responses.items ++ r ∷ []) c.response_of.ensures.value
    in
    let new : SessionState = record c.args.state.now { responses = c.push.new.self; last = Some v; kept = Some (record { assumed = c.new.result; number = Some c.args.number }) } in
    record {
      done =
          checked c.args.state.now new c.args.number v c.new.result (Some c.args.number) c.said.result refl refl refl refl given refl refl refl
          (λ s. same_text s c.said.result _ _ c.put_word.ensures.word (c.said.ensures.answer s)) c.new.ensures.items refl
          (subst (λ (b : ℕ). ComesTo c.args.state.now.stack.top.context (in_force c.args.state.now.stack) b v) c.budget.ensures.value c.in_ok-verdict.ensures.verdict)
          c.in_ok-verdict.ensures.accepted;
      stored = c.in_ok-verdict.ensures.kept;
      sorted = c.verdict.ensures.sorted;
      cache = c.put_by.ensures.cache _ c.in_ok-verdict.ensures.cache;
    }
