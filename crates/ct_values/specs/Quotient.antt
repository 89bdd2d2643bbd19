-- The quotient of a graph by numbered classes: of each class its representative, over the numbers of its children's classes.
use Rattle.std.specs.Prelude.{◌≡◌, ℕ, suc, ◌<◌, ◌↔◌, cond, List, [], ◌∷◌, length, map, nat_eq}
use Rattle.ct_values.specs.declared.node.NodeId.{NodeId}
use Rattle.ct_values.specs.declared.node.Node.{Node}
use Rattle.ct_values.specs.Graph.{Nodes, node_head, node_children}
use Rattle.ct_values.specs.Packed.{node_of}
use Rattle.ct_values.specs.Numbering.{CountsUp}
use Rattle.ct_values.specs.Partition.{class_at, Alike}

-- the number of a node's class
abbrev pub numbered_child : List ℕ → NodeId → NodeId
numbered_child numbers n = record { 0 = class_at numbers n.0 }

-- a node over the numbers of its children's classes
abbrev pub numbered_node : List ℕ → Node → Node
numbered_node numbers node = node_of (node_head node) (map (numbered_child numbers) (node_children node))

-- the representatives of the classes among these nodes, whose numbers come from the first list, where so many classes were met before
abbrev pub quotient_from : ℕ → List ℕ → List ℕ → Nodes → Nodes
quotient_from count all [] nodes = []
quotient_from count all (number ∷ numbers) [] = []
quotient_from count all (number ∷ numbers) (node ∷ nodes) = cond (nat_eq number count) (numbered_node all node ∷ quotient_from (suc count) all numbers nodes) (quotient_from count all numbers nodes)

-- of each class its representative
abbrev pub quotient : List ℕ → Nodes → Nodes
quotient numbers g = quotient_from 0 numbers numbers g

-- the numbers are equal where the classes are, and count up in the order of the representatives
pub record NumbersClasses (classes numbers : List ℕ) : Type 0 where
  pub long : length numbers ≡ length classes
  pub same : (i j : ℕ) → i < length classes → j < length classes → (class_at numbers i ≡ class_at numbers j) ↔ (class_at classes i ≡ class_at classes j)
  pub count : ℕ
  pub in_order : CountsUp 0 numbers count

-- the numbers are equal where the nodes agree at every depth, and count up in the order of the representatives
pub record AreNumbered (g : Nodes) (numbers : List ℕ) : Type 0 where
  pub long : length numbers ≡ length g
  pub same : (i j : ℕ) → i < length g → j < length g → (class_at numbers i ≡ class_at numbers j) ↔ Alike g i j
  pub count : ℕ
  pub in_order : CountsUp 0 numbers count
