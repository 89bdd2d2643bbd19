use Rattle.ct_values.proofs.PointLemmas.{AreFirstPoints}
use Rattle.ct_values.proofs.points.nodes_as_points.Given as goal

abbrev pub invariant-loop-n : goal.invariant-loop-n
invariant-loop-n l = AreFirstPoints l.graph l.settled l.n l.labels.items l.starts.items l.children.items
