-- When a graph fits declarations: each node is a constructor with children of its fields' sorts, or an element of an uninterpreted sort.
use Rattle.std.specs.Prelude.{◌≡◌, ℕ, List, Option, Some, option_map, slice_get}
use Rattle.std.specs.List.{AllZip}
use Rattle.ct_sorts.specs.declared.ids.SortId.{SortId}
use Rattle.ct_sorts.specs.declared.ids.SelId.{SelId}
use Rattle.ct_sorts.specs.declared.ids.Kind.TheVariants.{Free}
use Rattle.ct_sorts.specs.Declarations.{Declarations, Sort, Constructor, Selector}
use Rattle.ct_values.specs.declared.node.NodeId.{NodeId}
use Rattle.ct_values.specs.declared.node.Node.{Node}
use Rattle.ct_values.specs.declared.node.Node.TheVariants.{Con, Elem}
use Rattle.ct_values.specs.Graph.{Nodes}

-- the sort of a node: that of its constructor, or of its element
abbrev pub node_sort : Declarations → Node → Option SortId
node_sort d (Con c children) = option_map (λ ctor. ctor.sort) (slice_get d.ctors c.0)
node_sort d (Elem s n) = Some s

-- there is a node of this number, and it has this sort
abbrev pub HasNodeSort : Declarations → Nodes → NodeId → SortId → Type 0
HasNodeSort d g n s = (node : Node) × (slice_get g n.0 ≡ Some node) × (node_sort d node ≡ Some s)

-- the node has the sort of the selector's field
pub record IsNodeOfField (d : Declarations) (g : Nodes) (child : NodeId) (s : SelId) : Type 0 where
  pub selector : Selector
  pub declared : slice_get d.sels s.0 ≡ Some selector
  pub sorted : HasNodeSort d g child selector.sort

-- a constructor with as many children as it has selectors, each of the sort of its field
pub record IsBuilt (d : Declarations) (g : Nodes) (c : ℕ) (children : List NodeId) : Type 0 where
  pub ctor : Constructor
  pub declared : slice_get d.ctors c ≡ Some ctor
  pub fields : AllZip (IsNodeOfField d g) children ctor.sels

-- an element of an uninterpreted sort
pub record IsElement (d : Declarations) (s : ℕ) : Type 0 where
  pub sort : Sort
  pub declared : slice_get d.sorts s ≡ Some sort
  pub free : sort.kind ≡ Free

abbrev pub FitsNode : Declarations → Nodes → Node → Type 0
FitsNode d g (Con c children) = IsBuilt d g c.0 children
FitsNode d g (Elem s n) = IsElement d s.0

-- each node of the graph fits
abbrev pub FitsGraph : Declarations → Nodes → Type 0
FitsGraph d g = (n : ℕ) (node : Node) → slice_get g n ≡ Some node → FitsNode d g node
