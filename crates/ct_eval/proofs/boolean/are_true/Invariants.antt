use Rattle.std.proofs.Common.{◌≡◌, take, true}
use Rattle.std.specs.List.{list_all}
use Rattle.ct_values.specs.Value.{reference}
use Rattle.ct_values.specs.TruthValue.{is_true}
use Rattle.ct_eval.specs.EvaluationStep.{node_under}
use Rattle.ct_eval.proofs.boolean.are_true.Given as goal

abbrev pub invariant-loop-t : goal.invariant-loop-t
invariant-loop-t l = list_all (λ t. is_true l.shared (reference (node_under l.nodes t))) (take l.t-index l.terms) ≡ true
