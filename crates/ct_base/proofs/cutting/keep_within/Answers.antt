use Rattle.std.proofs.Common.{◌≤◌, List, take, reverse, All, sym, subst}
use Rattle.ct_base.specs.declared.stage.Stage.{Stage}
use Rattle.ct_base.specs.Base.{AreStages}
use Rattle.ct_base.specs.Cutting.{top_roots}
use Rattle.ct_base.proofs.StageLemmas.{stages_first, all_reversed, top_within}
use Rattle.ct_base.proofs.cutting.keep_within.Goals as goal

pub returns-clause-stages : goal.returns-clause-stages
returns-clause-stages c = λ d table ids split are.
    subst (λ (l : List Stage). AreStages d table ids split (reverse l)) (sym c.truncate.ensures.items)
    (stages_first c.count_within-count.result c.args.stages.now.items d table ids split are)

pub returns-clause-few : goal.returns-clause-few
returns-clause-few c =
    let left = take c.count_within-count.result c.args.stages.now.items in
    let few : All (λ (s : Stage). s.roots ≤ c.args.roots) left =
    subst (λ (l : List Stage). All (λ (s : Stage). s.roots ≤ c.args.roots) (take c.count_within-count.result l)) c.as_slice.ensures.value c.count_within-count.ensures.few in
    subst (λ (l : List Stage). top_roots (reverse l) ≤ c.args.roots) (sym c.truncate.ensures.items)
    (top_within c.args.roots (reverse left) (all_reversed (λ (s : Stage). s.roots ≤ c.args.roots) left few))
