use Rattle.std.proofs.Common.{◌≡◌, ℕ, ◌⊎◌, length, slice_get, Some}
use Rattle.ct_terms.specs.declared.ids.TermId.{TermId}
use Rattle.ct_values.specs.declared.node.Node.{Node}
use Rattle.ct_build.specs.Nodes.{IsOfTerm, IsCopied}
use Rattle.ct_build.proofs.class_nodes.class_nodes.Given as goal

abbrev pub invariant-loop-i : goal.invariant-loop-i
invariant-loop-i l = record {
  many : length l.added.items ≡ l.i;
  each : (i : ℕ) (r : TermId) (node : Node) → slice_get l.list i ≡ Some r → slice_get l.added.items i ≡ Some node → IsOfTerm l.classes l.nodes r node ⊎ IsCopied l.classes l.g l.values r node;
}
