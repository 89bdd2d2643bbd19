use Rattle.std.proofs.Common.{ℕ, ◌<◌, get_or}
use Rattle.ct_sorts.specs.declared.ids.SelId.{SelId}
use Rattle.ct_values.specs.declared.node.NodeId.{NodeId}
use Rattle.ct_values.specs.Fitting.{IsNodeOfField}
use Rattle.ct_values.proofs.fitting.are_nodes_of_fields.Given as goal

abbrev pub invariant-loop-i : goal.invariant-loop-i
invariant-loop-i l = (k : ℕ) (child : NodeId) (s : SelId) → k < l.i → IsNodeOfField l.sig l.g (get_or l.children k child) (get_or l.sels k s)
