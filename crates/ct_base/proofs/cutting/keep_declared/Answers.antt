use Rattle.std.proofs.Common.{List, take, reverse, All, sym, subst}
use Rattle.ct_base.specs.declared.stage.Stage.{Stage}
use Rattle.ct_base.specs.Base.{AreStages}
use Rattle.ct_base.specs.Cutting.{IsBelow}
use Rattle.ct_base.proofs.StageLemmas.{stages_first}
use Rattle.ct_base.proofs.cutting.keep_declared.Goals as goal

pub returns-clause-stages : goal.returns-clause-stages
returns-clause-stages c = λ d table ids split are.
    subst (λ (l : List Stage). AreStages d table ids split (reverse l)) (sym c.truncate.ensures.items)
    (stages_first c.count_below-count.result c.args.stages.now.items d table ids split are)

pub returns-clause-below : goal.returns-clause-below
returns-clause-below c =
    subst (All (IsBelow c.args.mark.now)) (sym c.truncate.ensures.items)
    (subst (λ (l : List Stage). All (IsBelow c.args.mark.now) (take c.count_below-count.result l)) c.as_slice.ensures.value c.count_below-count.ensures.below)
