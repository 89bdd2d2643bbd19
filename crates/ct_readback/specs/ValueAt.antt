-- Values in models, in either form.
use Rattle.std.specs.Prelude.{◌≡◌, Bool, is_some, [], Some, MatchBool, if◌then◌else◌, codes}
use Rattle.ct_sorts.specs.declared.ids.SortId.{SortId}
use Rattle.ct_sorts.specs.Declarations.{Declarations}
use Rattle.ct_sexpr.specs.Expression.{Expression}
use Rattle.ct_values.specs.Graph.{Nodes}
use Rattle.ct_values.specs.Value.{Value}
use Rattle.ct_values.specs.Agreement.{Point, point, node_point}
use Rattle.ct_readback.specs.Parts.{parts_after}
use Rattle.ct_readback.specs.Trees.{is_tree, tree_at}
use Rattle.ct_readback.specs.GraphText.{is_graph}
use Rattle.ct_readback.specs.Nodes.{IsGraphAt}

-- the expression is a list that begins with `@graph`
abbrev pub begins_graph : Expression → Bool
begins_graph e = is_some (parts_after (codes "@graph") e)

-- the expression has the form of a value
abbrev pub is_value : Expression → Bool
is_value e = if begins_graph e then is_graph e else is_tree e

-- a constructor term says this value, a tree over no graph
abbrev pub IsTreeValue : Declarations → SortId → Expression → Point → Type 0
IsTreeValue d s e p = (v : Value) × (tree_at d s e ≡ Some v) × (p ≡ point [] v)

-- a graph says this value, that of its node 0
abbrev pub IsGraphValue : Declarations → SortId → Expression → Point → Type 0
IsGraphValue d s e p = (h : Nodes) × IsGraphAt d s e h × (p ≡ node_point h (record { 0 = 0 }))

-- the expression says this value of the sort
abbrev pub IsValueAt : Declarations → SortId → Expression → Point → Type 0
IsValueAt d s e p = MatchBool (begins_graph e) (IsGraphValue d s e p) (IsTreeValue d s e p)
