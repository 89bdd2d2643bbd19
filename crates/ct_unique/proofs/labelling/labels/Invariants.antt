use Rattle.ct_unique.specs.Nodes.{AreLabels}
use Rattle.ct_unique.proofs.labelling.labels.Given as goal

abbrev pub invariant-loop-t : goal.invariant-loop-t
invariant-loop-t l = AreLabels l.classes l.t l.labels.items
