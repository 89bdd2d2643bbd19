use Rattle.std.proofs.Common.{◌≡◌, map, take}
use Rattle.ct_values.specs.Partition.{class_at}
use Rattle.ct_values.proofs.key.classes_of.Given as goal

abbrev pub invariant-loop-n : goal.invariant-loop-n
invariant-loop-n l = l.list.items ≡ map (λ n. class_at l.classes n.0) (take l.n-index l.nodes)
