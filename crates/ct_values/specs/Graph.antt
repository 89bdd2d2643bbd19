-- Graphs: lists of nodes, whose children are numbers of nodes of the list.
use Rattle.std.specs.Prelude.{ℕ, ◌<◌, List, [], length, All}
use Rattle.ct_values.specs.declared.node.NodeId.{NodeId}
use Rattle.ct_values.specs.declared.node.Node.{Node}
use Rattle.ct_values.specs.declared.node.Node.TheVariants.{Con, Elem}
use Rattle.ct_values.specs.declared.node.Head.{Head}
use Rattle.ct_values.specs.declared.node.Head.TheVariants as heads

-- a graph: its nodes, in the order of their numbers
abbrev pub Nodes : Type 0
Nodes = List Node

-- the constructor or the element of a node
abbrev pub node_head : Node → Head
node_head (Con c children) = heads.Con c
node_head (Elem s n) = heads.Elem s n

-- the children of a node; an element has none
abbrev pub node_children : Node → List NodeId
node_children (Con c children) = children
node_children (Elem s n) = []

-- the children of the node have numbers below the bound
abbrev pub HasChildrenBelow : ℕ → Node → Type 0
HasChildrenBelow n node = All (λ child. child.0 < n) (node_children node)

-- every child is a node of the graph
abbrev pub IsClosed : Nodes → Type 0
IsClosed g = All (HasChildrenBelow (length g)) g
