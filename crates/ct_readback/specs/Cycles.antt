-- Cycles through nodes of datatypes, whose values are finite.
use Rattle.std.specs.Prelude.{◌≡◌, List, [], ◌∷◌, Contains, Some, slice_get}
use Rattle.ct_sorts.specs.Declarations.{Declarations}
use Rattle.ct_values.specs.declared.node.NodeId.{NodeId}
use Rattle.ct_values.specs.declared.node.Node.{Node}
use Rattle.ct_values.specs.Graph.{Nodes, node_children}
use Rattle.ct_values.specs.WellFormed.{IsData}

-- both nodes are of datatypes, and the second is a child of the first
pub record IsDataStep (d : Declarations) (h : Nodes) (parent child : NodeId) : Type 0 where
  pub node : Node
  pub stands : slice_get h parent.0 ≡ Some node
  pub contains : Contains (node_children node) child
  pub parent_is : IsData d h parent
  pub child_is : IsData d h child

-- from a node along these nodes to the last, each a step from the one before
abbrev pub IsDataWay : Declarations → Nodes → NodeId → List NodeId → NodeId → Type 0
IsDataWay d h n [] last = IsDataStep d h n last
IsDataWay d h n (m ∷ way) last = IsDataStep d h n m × IsDataWay d h m way last

-- a way leads from a node to that node
abbrev pub HasDataCycle : Declarations → Nodes → Type 0
HasDataCycle d h = (n : NodeId) × (way : List NodeId) × IsDataWay d h n way n
