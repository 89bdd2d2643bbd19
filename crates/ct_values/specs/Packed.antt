-- Nodes side by side: a list of heads, the children of all nodes one after another, and where those of each node end.
use Rattle.std.specs.Prelude.{◌≡◌, ℕ, ◌-◌, ◌≤◌, List, [], ◌∷◌, take, drop}
use Rattle.ct_values.specs.declared.node.NodeId.{NodeId}
use Rattle.ct_values.specs.declared.node.Node.{Node}
use Rattle.ct_values.specs.declared.node.Node.TheVariants as nodes
use Rattle.ct_values.specs.declared.node.Head.{Head}
use Rattle.ct_values.specs.declared.node.Head.TheVariants.{Con, Elem}
use Rattle.ct_values.specs.Graph.{Nodes}

-- the node with this head and these children; an element has none
abbrev pub node_of : Head → List NodeId → Node
node_of (Con c) children = nodes.Con c children
node_of (Elem s n) children = nodes.Elem s n

-- the nodes with these heads, where the children of the first begin at this index, and those of each other one where
-- those of the one before it end
abbrev pub unpacked : ℕ → List Head → List ℕ → List NodeId → Nodes
unpacked from [] ends children = []
unpacked from (head ∷ heads) [] children = []
unpacked from (head ∷ heads) (end ∷ ends) children = node_of head (take (end - from) (drop from children)) ∷ unpacked end heads ends children

-- there is an end for each head, they do not fall, and the last is that of the list
abbrev pub ArePacked : ℕ → List Head → List ℕ → ℕ → Type 0
ArePacked from [] [] all = from ≡ all
ArePacked from [] (end ∷ ends) all = ⊥
ArePacked from (head ∷ heads) [] all = ⊥
ArePacked from (head ∷ heads) (end ∷ ends) all = (from ≤ end) × ArePacked end heads ends all
