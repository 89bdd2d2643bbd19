-- Partitions of the nodes of a graph: a number for each node, which is that of its class.
use Rattle.std.specs.Prelude.{◌≡◌, ℕ, ◌<◌, List, length, map, slice_index}
use Rattle.ct_values.specs.declared.node.Node.{Node}
use Rattle.ct_values.specs.declared.key.Key.{Key}
use Rattle.ct_values.specs.Graph.{Nodes, node_head, node_children}
use Rattle.ct_values.specs.Agreement.{node_point, AgreeAlways}

-- the class of the node with this number
abbrev pub class_at : List ℕ → ℕ → ℕ
class_at classes i = slice_index classes i

-- the head of a node, and the classes of its children
abbrev pub node_key : List ℕ → Node → Key
node_key classes node = record {
  head = node_head node;
  children = map (λ child. class_at classes child.0) (node_children node);
}

-- the nodes with these two numbers agree at every depth
abbrev pub Alike : Nodes → ℕ → ℕ → Type 0
Alike g i j = AgreeAlways (node_point g (record { 0 = i })) (node_point g (record { 0 = j }))

-- nodes that agree at every depth have one class
pub record KeepsTogether (g : Nodes) (classes : List ℕ) : Type 0 where
  pub long : length classes ≡ length g
  pub together : (i j : ℕ) → i < length g → j < length g → Alike g i j → class_at classes i ≡ class_at classes j
