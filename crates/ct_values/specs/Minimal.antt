-- The minimal graph of a tree: no two of its nodes agree at every depth, and they are numbered breadth first from the
-- root, which is node 0. It is the quotient by bisimilarity of the part that the root reaches.
use Rattle.std.specs.Prelude.{◌≡◌, ℕ, ◌<◌, not, List, [], ◌∷◌, length, map, filter, flat_map, Some, slice_get, nat_eq, IsTrue}
use Rattle.std.specs.List.{list_any, range_with_len}
use Rattle.ct_values.specs.declared.node.NodeId.{NodeId}
use Rattle.ct_values.specs.declared.node.Node.{Node}
use Rattle.ct_values.specs.Graph.{Nodes, IsClosed, node_children}
use Rattle.ct_values.specs.Agreement.{node_point, AgreeAlways}

-- the numbers of a list, each where it first occurs
abbrev pub first_occurrences : List ℕ → List ℕ
first_occurrences [] = []
first_occurrences (n ∷ ns) = n ∷ filter (λ m. not (nat_eq m n)) (first_occurrences ns)

-- the numbers of a node's children, in order
abbrev pub child_numbers : Node → List ℕ
child_numbers node = map (λ child. child.0) (node_children node)

-- the node with the second number is a child of the node with the first
abbrev pub HasChild : Nodes → ℕ → ℕ → Type 0
HasChild g m n = (node : Node) × (slice_get g m ≡ Some node) × IsTrue (list_any (nat_eq n) (child_numbers node))

-- the root, the children of node 0, those of node 1 and so on, each where it first occurs, have the numbers 0, 1, 2 and so on;
-- and each node but the root is a child of one before it
pub record IsBreadthFirst (h : Nodes) : Type 0 where
  pub in_order : first_occurrences (0 ∷ flat_map child_numbers h) ≡ range_with_len 0 (length h)
  pub reached : (n : ℕ) → 0 < n → n < length h → (m : ℕ) × (m < n) × HasChild h m n

-- h is the minimal graph of the tree at this node of g
pub record IsMinimal (g : Nodes) (root : NodeId) (h : Nodes) : Type 0 where
  pub closed : IsClosed h
  pub apart : (m n : NodeId) → m.0 < length h → n.0 < length h → AgreeAlways (node_point h m) (node_point h n) → m ≡ n
  pub same : AgreeAlways (node_point h (record { 0 = 0 })) (node_point g root)
  pub breadth_first : IsBreadthFirst h
