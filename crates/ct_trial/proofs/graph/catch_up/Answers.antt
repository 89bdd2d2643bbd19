use Rattle.std.proofs.Common.{◌≡◌, length, Some, slice_get, sym, ap, subst, ◌∙◌}
use Rattle.ct_values.specs.Graph.{Nodes, HasChildrenBelow}
use Rattle.ct_trial.specs.Growth.{IsAppended}
use Rattle.ct_trial.proofs.GraphLemmas.{appended_none, appended_one, caught_one}
use Rattle.ct_trial.proofs.graph.catch_up.Goals as goal

pub returns-then-count-len-clause-appended : goal.returns-then-count-len-clause-appended
returns-then-count-len-clause-appended c = appended_none c.args.graph.now

pub returns-clause-same : goal.returns-clause-same
returns-clause-same c =
    let g = c.args.graph.now in
    let h = c.args.shared.now in
    let node = c.in_ok-node.node in
    let at : slice_get h (length g) ≡ Some node = subst (λ n. slice_get h n ≡ Some node) c.len-count.ensures.count (ap (λ (l : Nodes). slice_get l c.len-count.result) (sym c.graph-2.ensures.value) ∙ c.in_ok-node.ensures.value) in
    c.in_ok-push.ensures.ok.1 ∙ caught_one g h c.requires.grown.0 node c.requires.grown.1 at

pub returns-clause-appended : goal.returns-clause-appended
returns-clause-appended c =
    let g = c.args.graph.now in
    let node = c.in_ok-node.node in
    let below : HasChildrenBelow (length g) node = subst (λ n. HasChildrenBelow n node) c.len-count.ensures.count (c.if-not-has_children_below.ensures.value.0 cc) in
    subst (λ (h : Nodes). IsAppended g h) (sym c.in_ok-push.ensures.ok.1) (appended_one g node below)
