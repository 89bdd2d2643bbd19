use Rattle.std.proofs.Common.{◌<◌, All, take}
use Rattle.ct_values.proofs.graph.are_below.Given as goal

abbrev pub invariant-loop-n : goal.invariant-loop-n
invariant-loop-n l = All (λ n. n.0 < l.bound) (take l.n-index l.nodes)
