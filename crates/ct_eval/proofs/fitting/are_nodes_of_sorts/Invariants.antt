use Rattle.std.proofs.Common.{ℕ, ◌<◌, get_or}
use Rattle.ct_sorts.specs.declared.ids.SortId.{SortId}
use Rattle.ct_values.specs.declared.node.NodeId.{NodeId}
use Rattle.ct_values.specs.Fitting.{HasNodeSort}
use Rattle.ct_eval.proofs.fitting.are_nodes_of_sorts.Given as goal

abbrev pub invariant-loop-i : goal.invariant-loop-i
invariant-loop-i l = (k : ℕ) (n : NodeId) (s : SortId) → k < l.i → HasNodeSort l.sig l.graph (get_or l.nodes k n) (get_or l.sorts k s)
