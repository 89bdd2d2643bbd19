use Rattle.std.proofs.Common.{◌≡◌, ℕ, List, length, subst}
use Rattle.std.proofs.lemmas.Result.{IfOk-weaker}
use Rattle.ct_partition.specs.Points.{Points, points}
use Rattle.ct_partition.specs.Partition.{IsStable, IsCoarsest, AreLeastPoints}
use Rattle.ct_values.specs.Least.{AreLeast, ArePositive}
use Rattle.ct_values.specs.NodePoints.{ArePointsOf}
use Rattle.ct_values.specs.Sharing.{AreClasses}
use Rattle.ct_values.proofs.BisimilarityLemmas.{AreClasses-blocks, AreClasses-settled}
use Rattle.ct_values.proofs.bisimilarity.classes.Goals as goal

pub returns-then-are_positive : goal.returns-then-are_positive
returns-then-are_positive c =
    let g = c.args.graph.now in
    let settled = c.in_ok-settled.settled.items in
    let positive : ArePositive settled = subst ArePositive c.deref.ensures.value c.if-are_positive.ensures.value in
    record {
      classes = IfOk-weaker c.least_of.result (λ places. AreLeast c.deref-then-are_positive.result.now places.items) (λ places. AreClasses g places.items) (λ places least. AreClasses-settled g settled places.items c.len.ensures.closed c.in_ok-settled.ensures.trees positive (subst (λ (ns : List ℕ). AreLeast ns places.items) c.deref-then-are_positive.ensures.value least)) c.least_of.ensures.least;
    }

pub returns : goal.returns
returns c =
    let g = c.args.graph.now in
    let settled = c.in_ok-settled.settled.items in
    let blocks = c.in_ok-classes.classes.items in
    let p : Points = points c.in_ok-points.points.labels.items c.in_ok-points.points.starts.items c.in_ok-points.points.children.items in
    let are : ArePointsOf g settled p = rw c.deref-2.ensures.value at c.in_ok-points.ensures.nodes in
    let stable : IsStable p blocks = rw (c.deref-3.ensures.value, c.deref-4.ensures.value, c.deref-5.ensures.value) at c.in_ok-classes.ensures.stable in
    let coarsest : IsCoarsest p blocks = rw (c.deref-3.ensures.value, c.deref-4.ensures.value, c.deref-5.ensures.value) at c.in_ok-classes.ensures.coarsest in
    let least : AreLeastPoints p blocks = rw (c.deref-3.ensures.value, c.deref-4.ensures.value, c.deref-5.ensures.value) at c.in_ok-classes.ensures.least in
    let long : length blocks ≡ p.count = rw c.deref-3.ensures.value at c.in_ok-classes.ensures.long in
    record { classes = AreClasses-blocks g settled blocks p c.len.ensures.closed c.in_ok-settled.ensures.trees are stable coarsest least long }
