-- How a value is written: a small finite tree as a constructor term, and else its minimal graph, node by node. That is this
-- project's choice, as are `(as @U_3 U)` for an element and `@3` for a node. A constructor whose sort its fields do not determine is
-- written `(as C S)`.
use Rattle.std.specs.Prelude.{◌≡◌, ℕ, suc, ◌<◌, ◌≤◌, ◌⊎◌, List, [], ◌∷◌, ◌++◌, length, slice_get, unwrap_or, codes, ◌==◌, if◌then◌else◌}
use Rattle.ct_sorts.specs.declared.ids.CtorId.{CtorId}
use Rattle.ct_sorts.specs.Declarations.{Declarations, ctor_names}
use Rattle.ct_sorts.specs.SortText.{as_written}
use Rattle.ct_instances.specs.Among.{origin_of}
use Rattle.ct_instances.specs.Fields.{is_ctor_determined, sort_of_ctor}
use Rattle.ct_sexpr.specs.Atom.{quoted}
use Rattle.ct_sexpr.specs.Expression.{Expression, leaf, list, Expressions, none, more, word}
use Rattle.ct_sexpr.specs.Written.{written}
use Rattle.ct_values.specs.declared.node.NodeId.{NodeId}
use Rattle.ct_values.specs.declared.node.Node.{Node}
use Rattle.ct_values.specs.Graph.{Nodes}
use Rattle.ct_values.specs.Value.{Value, Values, reference, element, construct, no_values, with_value, subterms, IsOver, node_value}
use Rattle.ct_values.specs.Agreement.{point, node_point, AgreeAlways}
use Rattle.ct_value_text.specs.Numeral.{numeral}
use Rattle.ct_values.specs.Minimal.{IsMinimal}

-- the node stands for this finite tree, in which no node of a graph is named; where a cycle is reached it stands for none
abbrev pub StandsFor : Nodes → NodeId → Value → Type 0
StandsFor g n v = IsOver [] v × AgreeAlways (node_point g n) (point [] v)

-- the most nodes of a tree that is written as a constructor term, each counted as often as it occurs
abbrev pub most_plain : ℕ
most_plain = 1000

-- a name, quoted where it needs to be
abbrev pub name : List ℕ → Expression
name bytes = leaf (quoted bytes)

-- the node n as `@n`; 64 is `@`
abbrev pub node_name : ℕ → Expression
node_name n = word (64 ∷ numeral n)

-- a sort as an expression of the language: its name, or the list of the generic's name and the arguments
abbrev pub sort_expression : Declarations → ℕ → Expression
sort_expression d s = as_written d.declared.heads (origin_of d (record { 0 = s }))

-- the text of a sort
abbrev pub sort_text : Declarations → ℕ → List ℕ
sort_text d s = written (sort_expression d s)

-- the text without its bars; 124 is `|`
abbrev pub without_bars : List ℕ → List ℕ
without_bars [] = []
without_bars (byte ∷ bytes) = if byte == 124 then without_bars bytes else byte ∷ without_bars bytes

-- what stands for a sort inside the symbols of its elements: its text without bars
abbrev pub bare_sort : Declarations → ℕ → List ℕ
bare_sort d s = without_bars (sort_text d s)

-- the symbol of the element n of the sort U, `@U_n`, and of the sort (Arr E), `@(Arr E)_n`; 95 is `_`
abbrev pub element_name : List ℕ → ℕ → List ℕ
element_name sort n = 64 ∷ (sort ++ 95 ∷ numeral n)

-- what is qualified by a sort, `(as C S)`
abbrev pub qualified : List ℕ → Expression → Expression
qualified symbol sort = list (more (word (codes "as")) (more (name symbol) (more sort none)))

-- the element n of the sort U as `(as @U_n U)`
abbrev pub element_text : Declarations → ℕ → ℕ → Expression
element_text d s n = qualified (element_name (bare_sort d s) n) (sort_expression d s)

-- the name of a constructor
abbrev pub ctor_name : Declarations → ℕ → List ℕ
ctor_name d c = unwrap_or (slice_get (ctor_names d) c) []

-- a constructor: its name, or `(as C S)` where the sorts of its fields do not determine its own
abbrev pub ctor_expression : Declarations → CtorId → Expression
ctor_expression d c = if is_ctor_determined d c then name (ctor_name d c.0) else qualified (ctor_name d c.0) (sort_expression d (sort_of_ctor d c).0)

-- a head alone, or before its arguments in a list
abbrev pub applied : Expression → Expressions → Expression
applied head none = head
applied head (more e es) = list (more head (more e es))

abbrev mutual
  -- a value as an expression: a constructor before its arguments, and a node of a graph by its number
  pub expression : Declarations → Value → Expression
  expression d (reference n) = node_name n.0
  expression d (element s n) = element_text d s.0 n
  expression d (construct c vs) = applied (ctor_expression d c) (expressions d vs)

  pub expressions : Declarations → Values → Expressions
  expressions d no_values = none
  expressions d (with_value v vs) = more (expression d v) (expressions d vs)

-- a node after its name, `(@n node)`
abbrev pub row : Declarations → ℕ → Node → Expression
row d n node = list (more (node_name n) (more (expression d (node_value node)) none))

-- each node after its name, from the number n on
abbrev pub node_texts : Declarations → ℕ → List Node → Expressions
node_texts d n [] = none
node_texts d n (node ∷ nodes) = more (row d n node) (node_texts d (suc n) nodes)

-- a whole graph, as its node 0: `(@graph ((@0 node) (@1 node) ..) @0)`
abbrev pub graph_text : Declarations → Nodes → Expression
graph_text d h = list (more (word (codes "@graph")) (more (list (node_texts d 0 h)) (more (node_name 0) none)))

-- the node stands for a finite tree of few nodes, and the text is that tree's
pub record IsTreeText (d : Declarations) (g : Nodes) (root : NodeId) (text : List ℕ) : Type 0 where
  pub tree : Value
  pub stands_for : StandsFor g root tree
  pub few : length (subterms tree) ≤ most_plain
  pub text_is : text ≡ written (expression d tree)

-- the node stands for no finite tree of few nodes
abbrev pub IsTooGreat : Nodes → NodeId → Type 0
IsTooGreat g root = (tree : Value) → StandsFor g root tree → most_plain < length (subterms tree)

-- the node stands for no such tree, and the text is that of the minimal graph
pub record IsGraphText (d : Declarations) (g : Nodes) (root : NodeId) (text : List ℕ) : Type 0 where
  pub many : IsTooGreat g root
  pub minimal : Nodes
  pub is_minimal : IsMinimal g root minimal
  pub text_is : text ≡ written (graph_text d minimal)

-- the text of the value that a node stands for
abbrev pub IsValueText : Declarations → Nodes → NodeId → List ℕ → Type 0
IsValueText d g root text = IsTreeText d g root text ⊎ IsGraphText d g root text
