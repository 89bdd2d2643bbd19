use Rattle.std.proofs.Common.{◌≡◌, List, Some, sym, subst}
use Rattle.ct_eval.specs.Interpretation.{IsProper}
use Rattle.ct_model.specs.ModelText.{IsModelText}
use Rattle.ct_stack.specs.Stack.{Context}
use Rattle.ct_step.specs.State.{model_kept}
use Rattle.ct_step.specs.Done.{kept_of}
use Rattle.ct_step.proofs.AskLemmas.{model_answered}
use Rattle.ct_step.proofs.ask.model.Goals as goal

pub model_text-requires : goal.model_text-requires
model_text-requires c =
    let i = c.in-Some.interp.now in
    let stands : model_kept (kept_of c.args.state.now.last c.args.state.now.kept) ≡ Some i = sym c.in-Some.ensures.value in
    record { proper = subst (λ (x : Context). IsProper x.declarations i) (sym c.scope.ensures.value) (c.requires.sound.own.proper i stands) }

pub returns-in-Ok : goal.returns-in-Ok
returns-in-Ok c =
    let i = c.in-Some.interp.now in
    let stands : model_kept (kept_of c.args.state.now.last c.args.state.now.kept) ≡ Some i = sym c.in-Some.ensures.value in
    record {
      done = λ number.
          model_answered c.args.state.now i stands number c.in-Ok.text.items c.said.result
          (subst (λ (x : Context). IsModelText x.declarations i c.in-Ok.text.items) c.scope.ensures.value c.in-Ok.ensures.text)
          c.said.ensures.answer;
    }
