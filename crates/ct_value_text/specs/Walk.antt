-- A walk that writes the tree at a node from a stack of what is still to be written: what the stack stands for, and what
-- is known of the tree as far as the walk has come.
use Rattle.std.specs.Prelude.{◌≡◌, ℕ, suc, ◌+◌, ◌<◌, ◌≤◌, List, [], ◌∷◌, ◌++◌, length, map}
use Rattle.ct_sorts.specs.Declarations.{Declarations}
use Rattle.ct_sexpr.specs.Token.{left_parenthesis, right_parenthesis}
use Rattle.ct_sexpr.specs.Written.{written}
use Rattle.ct_values.specs.declared.node.NodeId.{NodeId}
use Rattle.ct_value_text.specs.declared.tree_text.Item.{Item}
use Rattle.ct_value_text.specs.declared.tree_text.Item.TheVariants.{Node, Close}
use Rattle.ct_values.specs.Graph.{Nodes}
use Rattle.ct_values.specs.Value.{Value, subterms}
use Rattle.ct_value_text.specs.ValueText.{StandsFor, most_plain, expression}

-- the items stand for trees that are written with this text, each tree after a space, and have so many nodes in all
abbrev pub StandAs : Declarations → Nodes → List Item → List ℕ → ℕ → Type 0
StandAs d g [] text count = (text ≡ []) × (count ≡ 0)
StandAs d g (Close ∷ items) text count = (rest : List ℕ) × (text ≡ right_parenthesis ∷ rest) × StandAs d g items rest count
StandAs d g (Node n ∷ items) text count =
    (v : Value) × (rest : List ℕ) × (others : ℕ)
    × StandsFor g n v
    × (text ≡ 32 ∷ (written (expression d v) ++ rest))
    × (count ≡ length (subterms v) + others)
    × StandAs d g items rest others

-- the nodes are nodes of the graph
abbrev pub AreWithin : Nodes → List Item → Type 0
AreWithin g [] = Unit {0}
AreWithin g (Close ∷ items) = AreWithin g items
AreWithin g (Node n ∷ items) = (n.0 < length g) × AreWithin g items

-- how many parentheses are to be closed
abbrev pub closes : List Item → ℕ
closes [] = 0
closes (Close ∷ items) = suc (closes items)
closes (Node n ∷ items) = closes items

-- what is written of a constructor before its arguments
abbrev pub opening : List ℕ → List NodeId → List ℕ
opening name [] = name
opening name (n ∷ ns) = left_parenthesis ∷ name

-- what is left to be written of it then
abbrev pub pending : List NodeId → List Item
pending [] = []
pending (n ∷ ns) = map Node (n ∷ ns) ++ Close ∷ []

-- the tree at the node is begun: what was written and the node's tree before the items are what is written now and the items now
pub record IsBegun (d : Declarations) (g : Nodes) (n : NodeId) (old new : List ℕ) (before after : List Item) : Type 0 where
  pub within : AreWithin g before → AreWithin g after
  pub few_closes : closes after ≤ suc (closes before)
  pub forward : (v : Value) (text : List ℕ) (count : ℕ) → StandsFor g n v → StandAs d g before text count
      → (rest : List ℕ) × (others : ℕ) × StandAs d g after rest others
      × (old ++ (written (expression d v) ++ text) ≡ new ++ rest)
      × (length (subterms v) + count ≡ suc others)
  pub backward : (rest : List ℕ) (others : ℕ) → StandAs d g after rest others
      → (v : Value) × (text : List ℕ) × (count : ℕ) × StandsFor g n v × StandAs d g before text count
      × (old ++ (written (expression d v) ++ text) ≡ new ++ rest)
      × (length (subterms v) + count ≡ suc others)

-- the tree at the root is written up to here, with so many nodes, and the items are left: each tree that the root stands for is
-- what is written and trees that the items stand for, and the other way
pub record IsWalked (d : Declarations) (g : Nodes) (root : NodeId) (out : List ℕ) (items : List Item) (count : ℕ) : Type 0 where
  pub within : AreWithin g items
  pub few : count ≤ most_plain
  pub few_closes : closes items ≤ count
  pub forward : (v : Value) → StandsFor g root v
      → (rest : List ℕ) × (others : ℕ) × StandAs d g items rest others
      × (written (expression d v) ≡ out ++ rest)
      × (length (subterms v) ≡ count + others)
  pub backward : (rest : List ℕ) (others : ℕ) → StandAs d g items rest others
      → (v : Value) × StandsFor g root v
      × (written (expression d v) ≡ out ++ rest)
      × (length (subterms v) ≡ count + others)
