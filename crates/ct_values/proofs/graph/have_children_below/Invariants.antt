use Rattle.std.proofs.Common.{All, take}
use Rattle.ct_values.specs.Graph.{HasChildrenBelow}
use Rattle.ct_values.proofs.graph.have_children_below.Given as goal

abbrev pub invariant-loop-node : goal.invariant-loop-node
invariant-loop-node l = All (HasChildrenBelow l.bound) (take l.node-index l.nodes)
