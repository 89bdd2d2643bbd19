use Rattle.std.proofs.Common.{◌≡◌, ◌++◌, map, take}
use Rattle.ct_values.proofs.points.add_row.Given as goal

abbrev pub invariant-loop-n : goal.invariant-loop-n
invariant-loop-n l = l.children.items ≡ l.initial.children.items ++ map (λ n. n.0) (take l.n-index l.nodes)
