use Rattle.std.proofs.Common.{◌≡◌, ◌∙◌, ℕ, List, Some, sym, ap, subst}
use Rattle.ct_sorts.specs.Declarations.{Declarations}
use Rattle.ct_terms.specs.Terms.{AreSorted}
use Rattle.ct_log.specs.Recorded.{Derived, Recorded}
use Rattle.ct_log_text.specs.Written.{expression_of_record, text_of}
use Rattle.ct_stack.specs.Stack.{Context}
use Rattle.ct_step.specs.State.{derivation_kept}
use Rattle.ct_step.specs.Done.{kept_of}
use Rattle.ct_step.proofs.AnswerLemmas.{same_text}
use Rattle.ct_step.proofs.AskLemmas.{derivation_answered}
use Rattle.ct_step.proofs.ask.proof.Goals as goal

pub derivation_text-requires : goal.derivation_text-requires
derivation_text-requires c =
    let p : ℕ × Derived = (c.in-Some.number, c.in-Some.derivation.now) in
    let stands : derivation_kept (kept_of c.args.state.now.last c.args.state.now.kept) ≡ Some p = sym c.in-Some.ensures.value in
    record {
      fits =
          subst (λ (x : Context). AreSorted x.declarations c.rec.result.now.terms) (sym c.scope.ensures.value)
          (subst (λ (d : Declarations). AreSorted d c.rec.result.now.terms) (c.requires.sound.own.derived p stands)
          (subst (λ (r : Recorded). AreSorted c.in-Some.derivation.now.declarations r.terms) (sym c.rec.ensures.value) c.rec.ensures.derivation.judges.sorted));
    }

pub returns-in-Ok : goal.returns-in-Ok
returns-in-Ok c =
    let p : ℕ × Derived = (c.in-Some.number, c.in-Some.derivation.now) in
    let stands : derivation_kept (kept_of c.args.state.now.last c.args.state.now.kept) ≡ Some p = sym c.in-Some.ensures.value in
    let written =
    c.in-Ok.ensures.text
    ∙ ap (λ (x : Context). text_of (expression_of_record x.declarations c.in-Some.number c.rec.result.now)) c.scope.ensures.value
    ∙ ap (λ (r : Recorded). text_of (expression_of_record c.args.state.now.stack.top.context.declarations c.in-Some.number r)) c.rec.ensures.value in
    record { done = λ number. derivation_answered c.args.state.now p stands number c.said.result (λ s. same_text s c.said.result _ _ written (c.said.ensures.answer s)) }
