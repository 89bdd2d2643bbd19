-- The graph of steps between nodes of datatypes, by its lists.
use Rattle.std.proofs.Common.{◌≡◌, ℕ, ◌<◌, List, [], length, Contains, Option, None, Some, option_map, slice_get, refl, sym, subst, ◌∙◌, arith}
use Rattle.std.proofs.lemmas.Option.{none-some, same_Some, slice_get_within}
use Rattle.ct_sorts.specs.Declarations.{Declarations}
use Rattle.ct_values.specs.declared.node.NodeId.{NodeId}
use Rattle.ct_values.specs.declared.node.Node.{Node}
use Rattle.ct_values.specs.Graph.{Nodes, node_children}
use Rattle.ct_values.specs.WellFormed.{IsData}
use Rattle.ct_ordering.specs.Graph.{graph}
use Rattle.ct_readback.specs.EdgeRows.{AreRows}
use Rattle.ct_readback.specs.Placed.{numbered_node, AreDataEdges, AreDataChildren, IsDataRow}
use Rattle.ct_readback.proofs.CycleLemmas.{data_within}

-- the numbers in a row are those of nodes
pub row_within : (d : Declarations) (h : Nodes) (n : ℕ) (row : List ℕ) → IsDataRow d h n row → (place kid : ℕ) → slice_get row place ≡ Some kid → kid < length h
row_within d h n row is place kid at = data_within d h (numbered_node kid) (is.steps place kid at).child_is

-- rows of all nodes are the edges
pub edges_of : (d : Declarations) (h : Nodes) (starts kids : List ℕ) → AreRows (length h) (IsDataRow d h) (length h) starts kids → AreDataEdges d h (graph starts kids)
edges_of d h starts kids rows = record {
  count = let long = rows.long in omega (arith, long);
  steps = λ n place kid within has. (rows.rows n within).steps place kid has;
  kids = λ n kid step. (rows.rows n (slice_get_within h n step.node step.stands)).kids kid step;
}

-- the row of a node of a datatype, by its children
pub row_of_children : (d : Declarations) (h : Nodes) (n : NodeId) (node : Node) (row : List ℕ) → slice_get h n.0 ≡ Some node → IsData d h n → AreDataChildren d h (node_children node) row → IsDataRow d h n.0 row
row_of_children d h n node row stands data_n are = record {
  steps = λ place kid at.
      let found = are.are_data place kid at in
      record { node = node; stands = stands; contains = found.0; parent_is = data_n; child_is = found.1 };
  kids = λ kid step.
      let same : step.node ≡ node = same_Some step.node node (sym step.stands ∙ stands) in
      are.all kid (subst (λ (x : Node). Contains (node_children x) (numbered_node kid)) same step.contains) step.child_is;
}

-- and of any other node
pub row_of_none : (d : Declarations) (h : Nodes) (n : NodeId) → (IsData d h n → ⊥) → IsDataRow d h n.0 []
row_of_none d h n other = record {
  steps = λ place kid at. absurd (none-some kid at);
  kids = λ kid step. absurd (other step.parent_is);
}

pub row_added : (d : Declarations) (h : Nodes) (n : NodeId) (children : List NodeId) (row : List ℕ) → option_map node_children (slice_get h n.0) ≡ Some children → IsData d h n → AreDataChildren d h children row → IsDataRow d h n.0 row
row_added d h n children row at data_n are = by (slice_get h n.0) refl at
  where
    by : (o : Option Node) → slice_get h n.0 ≡ o → option_map node_children o ≡ Some children → IsDataRow d h n.0 row
    by None stands is = absurd (none-some children is)
    by (Some node) stands is = row_of_children d h n node row stands data_n (subst (λ (cs : List NodeId). AreDataChildren d h cs row) (sym (same_Some (node_children node) children is)) are)
