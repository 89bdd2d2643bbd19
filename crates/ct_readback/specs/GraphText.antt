-- Values that are written as graphs, `(@graph ((@0 node) (@1 node) ..) @0)`. A node is a constructor or an element, or a constructor before
-- numbers of nodes. The root is node 0, and there may be nodes that it does not reach.
use Rattle.std.specs.Prelude.{◌≡◌, ℕ, suc, Bool, true, ◌&&◌, ◌||◌, nat_lt, List, [], ◌∷◌, Option, Some, option_map, option_and_then, codes}
use Rattle.ct_sorts.specs.declared.ids.SortId.{SortId}
use Rattle.ct_sorts.specs.Declarations.{Declarations}
use Rattle.ct_sexpr.specs.Expression.{Expression, Expressions, none, more}
use Rattle.ct_values.specs.declared.node.NodeId.{NodeId}
use Rattle.ct_values.specs.declared.node.Node.{Node}
use Rattle.ct_values.specs.declared.node.Node.TheVariants.{Con, Elem}
use Rattle.ct_readback.specs.Words.{is_word, numbered, is_numbered}
use Rattle.ct_readback.specs.Parts.{holds, option_both, or_other, only_if, list_items, count, are_some, first_of, two_in, three_in, parts_after}
use Rattle.ct_readback.specs.Heads.{is_head, is_constructor_head, constructor_at, element_at}

-- the rows of a graph, one at least
abbrev pub some_rows : Expressions → Option Expressions
some_rows es = only_if (are_some es) es

abbrev pub rows_between : Expression × Expression × Expression → Option Expressions
rows_between parts = option_and_then some_rows (option_and_then (λ rows. only_if (is_word (codes "@graph") parts.0 && is_word (codes "@0") parts.2) rows) (list_items parts.1))

abbrev pub graph_rows : Expression → Option Expressions
graph_rows e = option_and_then rows_between (three_in e)

-- what stands after the number in the row number i, `(@i node)`
abbrev pub node_text : ℕ → Expression → Option Expression
node_text i e = option_and_then (λ parts. only_if (is_numbered (codes "@") i parts.0) parts.1) (two_in e)

-- the expression is the number of one of so many nodes
abbrev pub is_reference : ℕ → Expression → Bool
is_reference nodes e = holds (λ n. nat_lt n nodes) (numbered (codes "@") e)

abbrev pub are_references : ℕ → Expressions → Bool
are_references nodes none = true
are_references nodes (more e es) = is_reference nodes e && are_references nodes es

-- a constructor before references, one at least
abbrev pub is_applied : ℕ → Expression × Expressions → Bool
is_applied nodes parts = is_constructor_head parts.0 && (are_some parts.1 && are_references nodes parts.1)

-- the expression has the form of a node among so many
abbrev pub is_node_text : ℕ → Expression → Bool
is_node_text nodes e = is_head e || holds (is_applied nodes) (option_and_then first_of (list_items e))

-- the expressions are rows with such nodes, numbered from i on without gaps
abbrev pub are_rows : ℕ → ℕ → Expressions → Bool
are_rows nodes i none = true
are_rows nodes i (more e es) = holds (is_node_text nodes) (node_text i e) && are_rows nodes (suc i) es

-- the expression has the form of a graph
abbrev pub is_graph : Expression → Bool
is_graph e = holds (λ rows. are_rows (count rows) 0 rows) (graph_rows e)

-- the nodes with the numbers that the expressions are
abbrev pub reference_in : Expression → Option NodeId
reference_in e = option_map (λ n. record { 0 = n }) (numbered (codes "@") e)

abbrev pub references_in : Expressions → Option (List NodeId)
references_in none = Some []
references_in (more e es) = option_both (λ n ns. n ∷ ns) (reference_in e) (references_in es)

-- a constructor alone, an element, and a constructor before references, as nodes
abbrev pub lone_node : Declarations → SortId → Expression → Option Node
lone_node d s e = option_map (λ c. Con c []) (constructor_at d s e)

abbrev pub element_node : Declarations → SortId → Expression → Option Node
element_node d s e = option_map (Elem s) (option_and_then (element_at d s) (parts_after (codes "as") e))

abbrev pub applied_node : Declarations → SortId → Expression × Expressions → Option Node
applied_node d s parts = option_both Con (constructor_at d s parts.0) (references_in parts.1)

-- the node of this sort that the expression says, whatever its children are
abbrev pub node_at : Declarations → SortId → Expression → Option Node
node_at d s e = or_other (lone_node d s e) (or_other (element_node d s e) (option_and_then (applied_node d s) (option_and_then first_of (list_items e))))

-- the row number i says this node, of some sort
pub record SaysNode (d : Declarations) (i : ℕ) (row : Expression) (node : Node) : Type 0 where
  pub text : Expression
  pub written : node_text i row ≡ Some text
  pub sort : SortId
  pub said : node_at d sort text ≡ Some node

-- the rows, numbered from i on, say these nodes
abbrev pub SayNodes : Declarations → ℕ → Expressions → List Node → Type 0
SayNodes d i none [] = Unit {0}
SayNodes d i none (node ∷ nodes) = ⊥
SayNodes d i (more e es) [] = ⊥
SayNodes d i (more e es) (node ∷ nodes) = SaysNode d i e node × SayNodes d (suc i) es nodes
