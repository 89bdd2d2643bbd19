use Rattle.std.proofs.Common.{◌∙◌, ℕ, List, Some, refl, ap}
use Rattle.std.proofs.lemmas.Result.{err_from_is_err_and}
use Rattle.ct_shrink.specs.declared.shrunk.Shrunk.{Shrunk}
use Rattle.ct_stack.specs.Assuming.{assumptions_seen}
use Rattle.ct_step.specs.Cores.{core_text}
use Rattle.ct_step.specs.Done.{state_of, assumed_in}
use Rattle.ct_step.proofs.AnswerLemmas.{same_text}
use Rattle.ct_step.proofs.PrintLemmas.{prints_shrunk, not_printed, out_of_memory, unchanged}
use Rattle.ct_step.proofs.cores.shrunk_answer.Goals as goal

pub returns-in_err-core : goal.returns-in_err-core
returns-in_err-core c =
    let s = c.args.state.now in
    let p = err_from_is_err_and c.from_residual.result c.from_residual.ensures.1 in
    rw (p.1, p.2) (record { printed = λ minimal. not_printed s _ c.args.members _ c.in_err-core.ensures.refused (unchanged s); cache = c.kept_core.ensures.cache })

pub returns-in_err-shrunk : goal.returns-in_err-shrunk
returns-in_err-shrunk c =
    let s = c.args.state.now in
    let p = err_from_is_err_and c.from_residual-in_err-shrunk.result c.from_residual-in_err-shrunk.ensures.1 in
    rw (p.1, p.2) (record { printed = λ minimal. out_of_memory s _ c.args.members _ c.in_err-shrunk.ensures.err (unchanged s); cache = c.shrunk_core.ensures.cache })

pub returns-in_err-text : goal.returns-in_err-text
returns-in_err-text c =
    let s = c.args.state.now in
    let p = err_from_is_err_and c.from_residual-in_err-text.result c.from_residual-in_err-text.ensures.1 in
    rw (p.1, p.2) (record { printed = λ minimal. out_of_memory s _ c.args.members _ c.in_err-text.ensures.err (unchanged s); cache = c.shrunk_core.ensures.cache })

pub returns : goal.returns
returns c =
    let s = c.args.state.now in
    let core = c.in_ok-core.core.value in
    let shrunk = c.in_ok-shrunk.shrunk.value in
    let text = c.in_ok-text.ensures.text ∙ ap (λ (ps : List ℕ). core_text c.args.members (state_of s) (assumptions_seen (assumed_in s.kept)) ps) (c.as_slice.ensures.value ∙ ap (λ (x : Shrunk). x.core.places.items) c.deref.ensures) in
    record {
      printed = λ minimal.
          prints_shrunk s (record s { shrunk = Some c.into_inner.result }) c.args.members core c.in_ok-core.ensures.core c.said.result shrunk minimal c.in_ok-shrunk.ensures.shrunk refl refl refl (ap (λ (x : Shrunk). Some x) c.into_inner.ensures)
          (λ t. same_text t c.said.result _ _ text (c.said.ensures.answer t));
      cache = c.shrunk_core.ensures.cache;
    }
