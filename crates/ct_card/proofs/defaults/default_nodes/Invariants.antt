use Rattle.std.proofs.Common.{◌≡◌, ℕ, length, slice_get, Some}
use Rattle.ct_sorts.specs.declared.ids.CtorId.{CtorId}
use Rattle.ct_values.specs.declared.node.Node.{Node}
use Rattle.ct_card.specs.Defaults.{default_node}
use Rattle.ct_card.proofs.defaults.default_nodes.Given as goal

abbrev pub invariant-loop-s : goal.invariant-loop-s
invariant-loop-s l = record {
  long : length l.nodes.items ≡ l.s-index;
  each : (i s : ℕ) (c : CtorId) (node : Node) → slice_get l.nodes.items i ≡ Some node → slice_get l.order i ≡ Some s → slice_get l.ctors s ≡ Some c → node ≡ default_node l.sig l.ranks l.base s c;
}
