use Rattle.std.proofs.Common.{◌+◌, List, ℕ, sym, subst}
use Rattle.ct_unique.specs.Nodes.{AreLabels}
use Rattle.ct_unique.proofs.PointLemmas.{AreLabels-more}
use Rattle.ct_unique.proofs.labelling.labels.Goals as goal

pub loop-t-preserved : goal.loop-t-preserved
loop-t-preserved c =
    subst (λ (list : List ℕ). AreLabels c.args.classes.now (c.loop-t.t + 1) list) (sym c.in_ok-push.ensures.items)
    (AreLabels-more c.args.classes.now c.loop-t.t c.label.result c.loop-t.labels.items c.loop-t.invariant c.label.ensures.label)
