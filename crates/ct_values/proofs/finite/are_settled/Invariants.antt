use Rattle.std.proofs.Common.{◌<◌, All, take}
use Rattle.ct_values.specs.Partition.{class_at}
use Rattle.ct_values.proofs.finite.are_settled.Given as goal

abbrev pub invariant-loop-n : goal.invariant-loop-n
invariant-loop-n l = All (λ n. 0 < class_at l.classes n.0) (take l.n-index l.nodes)
