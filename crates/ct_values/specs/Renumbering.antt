-- New numbers for nodes of a graph: a node's new number is its index in a list of old numbers.
use Rattle.std.specs.Prelude.{◌≡◌, ℕ, ◌<◌, List, length, All, Some, slice_get, nat_eq}
use Rattle.std.specs.List.{AllZip}
use Rattle.indexmap.specs.IndexSet.{IndexSet, IsUnique}
use Rattle.ct_values.specs.declared.node.NodeId.{NodeId}
use Rattle.ct_values.specs.declared.node.Node.{Node}
use Rattle.ct_values.specs.Graph.{Nodes, node_head, node_children}

-- different numbers below the bound
pub record IsNumbering {S : Type 0} (bound : ℕ) (ids : IndexSet ℕ S) : Type 0 where
  pub unique : IsUnique nat_eq ids
  pub below : All (λ id. id < bound) ids.keys

-- what stands at an index stays there
abbrev pub Stay : {X : Type 0} → List X → List X → Type 0
Stay {X} old new = (i : ℕ) (x : X) → slice_get old i ≡ Some x → slice_get new i ≡ Some x

-- the new numbers stand for the old ones, one for one
abbrev pub StandFor : List ℕ → List NodeId → List NodeId → Type 0
StandFor ids = AllZip (λ p n. slice_get ids p.0 ≡ Some n.0)

-- the node is the one with this old number, with new numbers of its children
pub record IsRenumbered (g : Nodes) (ids : List ℕ) (n : ℕ) (node : Node) : Type 0 where
  pub source : Node
  pub stands : slice_get g n ≡ Some source
  pub head : node_head node ≡ node_head source
  pub children : StandFor ids (node_children node) (node_children source)

-- the nodes are those whose old numbers stand at their indices
abbrev pub AreRenumbered : Nodes → List ℕ → List Node → Type 0
AreRenumbered g ids nodes = (i n : ℕ) (node : Node) → slice_get nodes i ≡ Some node → slice_get ids i ≡ Some n → IsRenumbered g ids n node

-- the nodes are those that stand for a root and for all that it reaches, and maybe for others, each for another one
pub record IsPart (g : Nodes) (root : ℕ) (nodes : Nodes) : Type 0 where
  pub ids : List ℕ
  pub unique : (i j n : ℕ) → slice_get ids i ≡ Some n → slice_get ids j ≡ Some n → i ≡ j
  pub first : slice_get ids 0 ≡ Some root
  pub all : length nodes ≡ length ids
  pub renumbered : AreRenumbered g ids nodes
