-- The representative of a value in a graph: the node of the least number that is bisimilar to it. Two nodes are
-- bisimilar exactly where they have one representative.
use Rattle.std.specs.Prelude.{◌≡◌, ℕ, ◌<◌, ◌≤◌, List, length, Some, slice_get}
use Rattle.indexmap.specs.IndexMap.{IndexMap, get}
use Rattle.ct_values.specs.declared.node.NodeId.{NodeId}
use Rattle.ct_values.specs.declared.node.Node.{Node}
use Rattle.ct_values.specs.declared.key.Key.{Key}
use Rattle.ct_values.specs.Graph.{Nodes, IsClosed}
use Rattle.ct_values.specs.Agreement.{Point, node_point, AgreeAlways}
use Rattle.ct_values.specs.Partition.{class_at, node_key}
use Rattle.ct_values.specs.KeyTest.{same_key}

-- the node is the representative of this value, which may be over another graph: the node of the least number that is
-- bisimilar to it
pub record IsRepresentative (g : Nodes) (p : Point) (n : NodeId) : Type 0 where
  pub within : n.0 < length g
  pub same : AgreeAlways (node_point g n) p
  pub first : (m : NodeId) → m.0 < length g → AgreeAlways (node_point g m) p → n.0 ≤ m.0

-- each node's class is named for its representative
pub record AreClasses (g : Nodes) (classes : List ℕ) : Type 0 where
  pub closed : IsClosed g
  pub long : length classes ≡ length g
  pub named : (n : NodeId) → n.0 < length g → IsRepresentative g (node_point g n) (record { 0 = class_at classes n.0 })

-- the map has the key of each node before this number with its class, and no other
pub record IsKeyed {S : Type 0} (g : Nodes) (classes : List ℕ) (representatives : IndexMap Key ℕ S) (count : ℕ) : Type 0 where
  pub known : (n : ℕ) (node : Node) → n < count → slice_get g n ≡ Some node → get same_key representatives (node_key classes node) ≡ Some (class_at classes n)
  pub only : (key : Key) (n : ℕ) → get same_key representatives key ≡ Some n → (n < count) × ((node : Node) × (slice_get g n ≡ Some node) × (key ≡ node_key classes node))

-- these are the classes, and the map has the key of each node with its class, and no other
pub record IsShared {S : Type 0} (g : Nodes) (classes : List ℕ) (representatives : IndexMap Key ℕ S) : Type 0 where
  pub are_classes : AreClasses g classes
  pub keyed : IsKeyed g classes representatives (length g)
