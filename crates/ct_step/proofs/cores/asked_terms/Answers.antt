use Rattle.std.proofs.Common.{List, All, sym, subst}
use Rattle.ct_stack.specs.declared.assuming.Assumption.{Assumption as Assumed}
use Rattle.ct_stack.specs.Assuming.{IsTruth, with_assumed, assumptions_seen}
use Rattle.ct_stack.specs.Held.{IsHeld, as_one}
use Rattle.ct_step.proofs.cores.asked_terms.Goals as goal

pub core_terms_with-requires : goal.core_terms_with-requires
core_terms_with-requires c = record { sorted = subst (All (IsTruth c.args.state.now.stack.top.context.declarations)) (sym c.kept_assumptions.ensures.value) c.requires.sorted }

pub returns-in-Ok-clause-held : goal.returns-in-Ok-clause-held
returns-in-Ok-clause-held c =
    subst (λ (assumed : List Assumed). IsHeld (with_assumed (as_one c.args.state.now.stack) (assumptions_seen assumed)) c.in-Ok.terms.0.value c.in-Ok.terms.1.items) c.kept_assumptions.ensures.value c.in-Ok.ensures.held
