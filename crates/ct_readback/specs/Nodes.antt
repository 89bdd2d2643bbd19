-- The graphs that rows say. A name does not tell a sort where sorts have arguments, so the sorts of nodes go from the root down by fields.
use Rattle.std.specs.Prelude.{◌≡◌, ◌<◌, ℕ, Bool, true, List, [], length, Option, Some, slice_get, option_and_then}
use Rattle.std.specs.List.{AllZip}
use Rattle.ct_sorts.specs.declared.ids.SortId.{SortId}
use Rattle.ct_sorts.specs.Declarations.{Declarations, IsConstructor}
use Rattle.ct_sexpr.specs.Expression.{Expression, Expressions}
use Rattle.ct_values.specs.declared.node.NodeId.{NodeId}
use Rattle.ct_values.specs.declared.node.Node.{Node}
use Rattle.ct_values.specs.declared.node.Node.TheVariants.{Con, Elem}
use Rattle.ct_values.specs.Graph.{Nodes, IsClosed, node_children}
use Rattle.ct_values.specs.Fitting.{HasNodeSort, FitsNode}
use Rattle.ct_names.specs.Symbols.{ctor_field_sorts}
use Rattle.ct_readback.specs.Parts.{nth}
use Rattle.ct_readback.specs.GraphText.{graph_rows, node_text, node_at, SayNodes}

-- the node of this sort that the row number i says
abbrev pub said_at : Declarations → Expressions → ℕ → SortId → Option Node
said_at d rows i s = option_and_then (node_at d s) (option_and_then (node_text i) (nth rows i))

-- the sorts that the children of the node must have
abbrev pub field_sorts : Declarations → Node → List SortId
field_sorts d (Con c children) = ctor_field_sorts d c
field_sorts d (Elem s number) = []

-- the constructor of the node is declared
abbrev pub IsDeclaredNode : Declarations → Node → Type 0
IsDeclaredNode d (Con c children) = IsConstructor d c
IsDeclaredNode d (Elem s number) = Unit {0}

-- the row says a node of the sort, and the sorts of these pairs are right for its children
pub record FitsAt (d : Declarations) (rows : Expressions) (fits : ℕ → SortId → Bool) (i : ℕ) (s : SortId) : Type 0 where
  pub node : Node
  pub said : said_at d rows i s ≡ Some node
  pub children : AllZip (λ child t. fits child.0 t ≡ true) (node_children node) (field_sorts d node)

-- the pairs of nodes and sorts fit one another
abbrev pub AreFit : Declarations → Expressions → (ℕ → SortId → Bool) → Type 0
AreFit d rows fits = (i : ℕ) (s : SortId) → fits i s ≡ true → FitsAt d rows fits i s

-- the node can have the sort by itself: with that sort all that it leads to fits
abbrev pub CanHave : Declarations → Expressions → ℕ → SortId → Type 0
CanHave d rows i s = (fits : ℕ → SortId → Bool) × AreFit d rows fits × (fits i s ≡ true)

-- the set has the children of its nodes
abbrev pub HasChildren : Nodes → (ℕ → Bool) → Type 0
HasChildren h set = (n : ℕ) (node : Node) (k : ℕ) (child : NodeId) → set n ≡ true → slice_get h n ≡ Some node → slice_get (node_children node) k ≡ Some child → set child.0 ≡ true

-- the root, node 0, reaches the node: each set with the root and with children has it
abbrev pub IsReached : Nodes → ℕ → Type 0
IsReached h n = (set : ℕ → Bool) → set 0 ≡ true → HasChildren h set → set n ≡ true

-- The rows say this graph, whose node 0 is of the sort. Each node that the root reaches has children of its fields' sorts, so it has the
-- sort of the field that leads to it. Each other node can have some sort by itself, whatever sorts the nodes below it have for other
-- nodes.
pub record IsGraphOf (d : Declarations) (s : SortId) (rows : Expressions) (h : Nodes) : Type 0 where
  pub nodes : SayNodes d 0 rows h
  pub closed : IsClosed h
  pub root : HasNodeSort d h (record { 0 = 0 }) s
  pub reached : (n : ℕ) (node : Node) → IsReached h n → slice_get h n ≡ Some node → FitsNode d h node
  pub others : (n : ℕ) → n < length h → (t : SortId) × CanHave d rows n t

-- the expression says this graph
abbrev pub IsGraphAt : Declarations → SortId → Expression → Nodes → Type 0
IsGraphAt d s e h = (rows : Expressions) × (graph_rows e ≡ Some rows) × IsGraphOf d s rows h
