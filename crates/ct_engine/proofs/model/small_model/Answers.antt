use Rattle.std.proofs.Common.{◌≡◌, Option, IfSome, sym, ap, subst, ◌∙◌}
use Rattle.ct_sorts.specs.Declarations.{Declarations}
use Rattle.ct_card.specs.Sizes.{AreSizes}
use Rattle.ct_congr.specs.State.{State}
use Rattle.ct_eval.specs.Interpretation.{IsProper}
use Rattle.ct_engine.proofs.model.small_model.Goals as goal

pub build_small-requires-clause-sizes : goal.build_small-requires-clause-sizes
build_small-requires-clause-sizes c =
    rw c.deref-classes.ensures (subst (λ (d : Declarations). AreSizes d c.args.sizes.now) (sym c.requires.candidate.saturation.declarations) c.requires.sizes)

pub build_small-requires-clause-quiet : goal.build_small-requires-clause-quiet
build_small-requires-clause-quiet c = rw c.deref-classes.ensures c.requires.candidate.saturation.quiet

pub build_small-requires-clause-ordered : goal.build_small-requires-clause-ordered
build_small-requires-clause-ordered c = rw c.deref-classes.ensures c.requires.candidate.saturation.ordered

pub if_true-requires-clause-proper : goal.if_true-requires-clause-proper
if_true-requires-clause-proper c =
    let same : c.deref-classes.result.now.declarations ≡ c.args.sig.now = ap (λ (s : State). s.declarations) c.deref-classes.ensures ∙ c.requires.candidate.saturation.declarations in
    subst (λ (d : Declarations). IfSome c.in_ok-small.small (IsProper d)) same c.in_ok-small.ensures.proper
