-- The nodes of a graph as labelled points: a settled node is a point without children whose label is its class, which is not
-- 0. Any other node is a constructor, since an element is settled: its label is its constructor, and it has its children.
use Rattle.std.specs.Prelude.{◌≡◌, ℕ, zero, suc, List, [], length, map, Some, slice_get}
use Rattle.ct_values.specs.declared.node.NodeId.{NodeId}
use Rattle.ct_values.specs.declared.node.Node.{Node}
use Rattle.ct_values.specs.declared.node.Head.{Head}
use Rattle.ct_values.specs.declared.node.Head.TheVariants.{Con, Elem}
use Rattle.ct_values.specs.Graph.{Nodes, node_head, node_children}
use Rattle.ct_values.specs.Partition.{class_at}
use Rattle.ct_partition.specs.Points.{Points}

-- the label of a node with this class and this head
abbrev pub label_of : ℕ → Head → ℕ
label_of zero (Con c) = c.0
label_of zero (Elem s n) = 0
label_of (suc class) head = suc class

-- the children, as points, of a node with this class and these children
abbrev pub row_of : ℕ → List NodeId → List ℕ
row_of zero nodes = map (λ n. n.0) nodes
row_of (suc class) nodes = []

-- each point has the label and the children of its node
pub record ArePointsOf (g : Nodes) (settled : List ℕ) (p : Points) : Type 0 where
  pub many : p.count ≡ length g
  pub labels : (i : ℕ) (node : Node) → slice_get g i ≡ Some node → p.label i ≡ label_of (class_at settled i) (node_head node)
  pub rows : (i : ℕ) (node : Node) → slice_get g i ≡ Some node → p.children i ≡ row_of (class_at settled i) (node_children node)
