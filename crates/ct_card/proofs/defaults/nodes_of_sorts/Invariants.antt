use Rattle.std.proofs.Common.{◌≡◌, ℕ, length, slice_get, Some}
use Rattle.ct_values.specs.declared.node.NodeId.{NodeId}
use Rattle.ct_card.specs.Defaults.{node_of_sort}
use Rattle.ct_card.proofs.defaults.nodes_of_sorts.Given as goal

abbrev pub invariant-loop-s : goal.invariant-loop-s
invariant-loop-s l = record {
  long : length l.nodes.items ≡ l.s;
  each : (k : ℕ) (n : NodeId) → slice_get l.nodes.items k ≡ Some n → n ≡ node_of_sort l.base l.ranks k;
}
