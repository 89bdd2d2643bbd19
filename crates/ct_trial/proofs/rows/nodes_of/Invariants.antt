use Rattle.std.proofs.Common.{◌≡◌, map, take}
use Rattle.ct_eval.specs.EvaluationStep.{node_under}
use Rattle.ct_trial.proofs.rows.nodes_of.Given as goal

abbrev pub invariant-loop-t : goal.invariant-loop-t
invariant-loop-t l = l.list.items ≡ map (node_under l.nodes) (take l.t-index l.terms)
