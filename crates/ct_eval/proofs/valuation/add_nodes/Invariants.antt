use Rattle.std.proofs.Common.{◌≡◌, length}
use Rattle.ct_eval.specs.EvaluationStep.{HaveNodes}
use Rattle.ct_eval.proofs.valuation.add_nodes.Given as goal

-- so many terms have nodes
abbrev pub invariant-loop-t : goal.invariant-loop-t
invariant-loop-t l = HaveNodes l.sig l.interp l.table l.shared l.nodes.items × (length l.nodes.items ≡ l.t)
