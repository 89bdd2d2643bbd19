-- Graphs that fit the declarations and keep the order of datatype nodes: the values of their
-- nodes that are of datatypes are finite.
use Rattle.std.specs.Prelude.{◌≡◌, ℕ, ◌<◌, List, All, Contains, Some, slice_get}
use Rattle.ct_sorts.specs.declared.ids.SortId.{SortId}
use Rattle.ct_sorts.specs.declared.ids.Kind.TheVariants.{Data}
use Rattle.ct_sorts.specs.Declarations.{Declarations, Sort}
use Rattle.ct_values.specs.declared.node.NodeId.{NodeId}
use Rattle.ct_values.specs.declared.node.Node.{Node}
use Rattle.ct_values.specs.Graph.{Nodes, node_children}
use Rattle.ct_values.specs.Fitting.{HasNodeSort, FitsGraph}

-- the node is of a datatype
abbrev pub IsData : Declarations → Nodes → NodeId → Type 0
IsData d g n =
    (s : SortId) × (sort : Sort) × HasNodeSort d g n s × (slice_get d.sorts s.0 ≡ Some sort)
    × (sort.kind ≡ Data)

-- each child of a datatype that a node of a datatype has comes before the node: values of
-- datatypes are finite
abbrev pub AreFinite : Declarations → Nodes → Type 0
AreFinite d g =
    (n child : NodeId) (node : Node) → slice_get g n.0 ≡ Some node
    → Contains (node_children node) child → IsData d g n → IsData d g child → child.0 < n.0

-- the nodes of datatypes among these have numbers below the bound
abbrev pub AreBefore : Declarations → Nodes → ℕ → List NodeId → Type 0
AreBefore d g bound nodes = All (λ n. IsData d g n → n.0 < bound) nodes

-- the graph fits the declarations, and each node of a datatype comes after its children of
-- datatypes
pub record IsWellFormedGraph (d : Declarations) (g : Nodes) : Type 0 where
  pub fits : FitsGraph d g
  pub finite : AreFinite d g
