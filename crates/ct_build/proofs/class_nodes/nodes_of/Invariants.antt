use Rattle.std.proofs.Common.{◌≡◌, take, map}
use Rattle.ct_eval.specs.EvaluationStep.{node_under}
use Rattle.ct_build.proofs.class_nodes.nodes_of.Given as goal

abbrev pub invariant-loop-t : goal.invariant-loop-t
invariant-loop-t l = l.list.items ≡ map (node_under l.nodes) (take l.t-index l.terms)
