use Rattle.std.proofs.Common.{◌≡◌, take, false}
use Rattle.std.specs.List.{list_any}
use Rattle.ct_values.specs.Value.{reference}
use Rattle.ct_values.specs.TruthValue.{is_true}
use Rattle.ct_eval.specs.EvaluationStep.{node_under}
use Rattle.ct_eval.proofs.boolean.is_one_true.Given as goal

abbrev pub invariant-loop-t : goal.invariant-loop-t
invariant-loop-t l = list_any (λ t. is_true l.shared (reference (node_under l.nodes t))) (take l.t-index l.terms) ≡ false
