use Rattle.std.proofs.lemmas.Result.{err_from_is_err_and}
use Rattle.std.proofs.Common.{◌∙◌, ℕ, List, refl, ap}
use Rattle.ct_core.specs.declared.unsat_core.UnsatCore.{UnsatCore}
use Rattle.ct_stack.specs.Assuming.{assumptions_seen}
use Rattle.ct_step.specs.Cores.{core_text}
use Rattle.ct_step.specs.Done.{state_of, assumed_in}
use Rattle.ct_step.proofs.AnswerLemmas.{same_text}
use Rattle.ct_step.proofs.DoneLemmas.{same_stack}
use Rattle.ct_step.proofs.PrintLemmas.{prints_whole, not_printed, out_of_memory}
use Rattle.ct_step.proofs.cores.whole_answer.Goals as goal

pub returns-in_err-core : goal.returns-in_err-core
returns-in_err-core c =
    let s = c.args.state.now in
    let p = err_from_is_err_and c.from_residual.result c.from_residual.ensures.1 in
    rw (p.1, p.2) (record { printed = λ whole. not_printed s s c.args.members _ c.in_err-core.ensures.refused (same_stack s s.stack refl); cache = c.kept_core.ensures.cache })

pub returns-in_err-text : goal.returns-in_err-text
returns-in_err-text c =
    let s = c.args.state.now in
    let p = err_from_is_err_and c.from_residual-in_err-text.result c.from_residual-in_err-text.ensures.1 in
    rw (p.1, p.2) (record { printed = λ whole. out_of_memory s s c.args.members _ c.in_err-text.ensures.err (same_stack s s.stack refl); cache = c.kept_core.ensures.cache })

pub returns : goal.returns
returns c =
    let s = c.args.state.now in
    let text = c.in_ok-text.ensures.text ∙ ap (λ (ps : List ℕ). core_text c.args.members (state_of s) (assumptions_seen (assumed_in s.kept)) ps) (c.as_slice.ensures.value ∙ ap (λ (u : UnsatCore). u.places.items) c.deref.ensures) in
    record {
      printed = λ whole.
          prints_whole s s c.args.members c.in_ok-core.core.value c.in_ok-core.ensures.core c.said.result whole (same_stack s s.stack refl)
          (λ t. same_text t c.said.result _ _ text (c.said.ensures.answer t));
      cache = c.kept_core.ensures.cache;
    }
