-- A graph put after another one, with its nodes of datatypes in the order of their children.
use Rattle.std.specs.Prelude.{◌≡◌, ℕ, ◌+◌, ◌<◌, List, length, Contains, Some, slice_get}
use Rattle.std.specs.List.{AllZip}
use Rattle.ct_sorts.specs.declared.ids.SortId.{SortId}
use Rattle.ct_sorts.specs.Declarations.{Declarations}
use Rattle.ct_values.specs.declared.node.NodeId.{NodeId}
use Rattle.ct_values.specs.declared.node.Node.{Node}
use Rattle.ct_values.specs.Graph.{Nodes, node_head, node_children}
use Rattle.ct_values.specs.Agreement.{node_point, AgreeAlways}
use Rattle.ct_values.specs.Fitting.{HasNodeSort}
use Rattle.ct_values.specs.WellFormed.{IsData}
use Rattle.ct_ordering.specs.Graph.{Graph, HasKid}
use Rattle.ct_readback.specs.Cycles.{IsDataStep}

-- the node with this number
abbrev pub numbered_node : ℕ → NodeId
numbered_node n = record { 0 = n }

-- the points of the graph are the nodes, and its edges are the steps from nodes of datatypes to children of datatypes
pub record AreDataEdges (d : Declarations) (h : Nodes) (g : Graph) : Type 0 where
  pub count : g.count ≡ length h
  pub steps : (n place kid : ℕ) → n < length h → HasKid g n place kid → IsDataStep d h (numbered_node n) (numbered_node kid)
  pub kids : (n kid : ℕ) → IsDataStep d h (numbered_node n) (numbered_node kid) → (place : ℕ) × HasKid g n place kid

-- the numbers are those of the nodes of datatypes among these
pub record AreDataChildren (d : Declarations) (h : Nodes) (children : List NodeId) (row : List ℕ) : Type 0 where
  pub are_data : (place kid : ℕ) → slice_get row place ≡ Some kid → Contains children (numbered_node kid) × IsData d h (numbered_node kid)
  pub all : (kid : ℕ) → Contains children (numbered_node kid) → IsData d h (numbered_node kid) → (place : ℕ) × (slice_get row place ≡ Some kid)

-- the numbers that are added for a node are those of its children of datatypes, where it is of a datatype
pub record IsDataRow (d : Declarations) (h : Nodes) (n : ℕ) (row : List ℕ) : Type 0 where
  pub steps : (place kid : ℕ) → slice_get row place ≡ Some kid → IsDataStep d h (numbered_node n) (numbered_node kid)
  pub kids : (kid : ℕ) → IsDataStep d h (numbered_node n) (numbered_node kid) → (place : ℕ) × (slice_get row place ≡ Some kid)

-- where each of so many nodes stands, from the base on in this order
pub record ArePlaces (base count : ℕ) (points : List ℕ) (places : List NodeId) : Type 0 where
  pub long : length places ≡ count
  pub each : (index point : ℕ) → slice_get points index ≡ Some point → slice_get places point ≡ Some (numbered_node (base + index))

-- the child stands there
abbrev pub StandsAt : List NodeId → NodeId → NodeId → Type 0
StandsAt places at child = slice_get places child.0 ≡ Some at

-- the node is the one with this number in the graph, with its children where they stand
pub record IsMoved (h : Nodes) (places : List NodeId) (n : ℕ) (node : Node) : Type 0 where
  pub source : Node
  pub stands : slice_get h n ≡ Some source
  pub head : node_head node ≡ node_head source
  pub children : AllZip (StandsAt places) (node_children node) (node_children source)

-- the node has the sorts and the value of node 0 of the graph
pub record IsPlacedRoot (d : Declarations) (h g : Nodes) (n : NodeId) : Type 0 where
  pub sorted : (s : SortId) → HasNodeSort d h (numbered_node 0) s → HasNodeSort d g n s
  pub agrees : AgreeAlways (node_point g n) (node_point h (numbered_node 0))
