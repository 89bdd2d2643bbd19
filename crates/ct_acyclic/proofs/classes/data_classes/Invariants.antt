use Rattle.ct_acyclic.specs.Edges.{AreKept}
use Rattle.ct_acyclic.proofs.classes.data_classes.Given as goal

abbrev pub invariant-loop-point : goal.invariant-loop-point
invariant-loop-point l = AreKept l.classes l.points l.point-index l.reps.items
