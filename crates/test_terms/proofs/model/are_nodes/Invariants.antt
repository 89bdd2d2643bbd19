use Rattle.std.proofs.Common.{All, take}
use Rattle.ct_model.specs.Within.{IsNode}
use Rattle.test_terms.proofs.model.are_nodes.Given as goal

abbrev pub invariant-loop-n : goal.invariant-loop-n
invariant-loop-n l = All (IsNode l.graph) (take l.n-index l.nodes)
