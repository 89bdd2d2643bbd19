-- A node with the value that a constructor term says.
use Rattle.std.specs.Prelude.{◌≡◌, ◌⊎◌, List, [], ◌∷◌, ◌++◌, map, Option, Some, None, option_map, slice_get}
use Rattle.ct_sorts.specs.declared.ids.SortId.{SortId}
use Rattle.ct_sorts.specs.declared.ids.CtorId.{CtorId}
use Rattle.ct_sorts.specs.Declarations.{Declarations, Constructor}
use Rattle.ct_values.specs.declared.node.NodeId.{NodeId}
use Rattle.ct_values.specs.declared.node.Node.{Node}
use Rattle.ct_values.specs.Graph.{Nodes}
use Rattle.ct_values.specs.Value.{Value, Values, no_values, with_value}
use Rattle.ct_sorts.specs.declared.ids.SelId.{SelId}
use Rattle.ct_sexpr.specs.Expression.{Expressions}
use Rattle.ct_names.specs.Symbols.{field_sort_id}
use Rattle.ct_readback.specs.Trees.{trees_at}
use Rattle.ct_values.specs.Agreement.{point, node_point, AgreeAlways}
use Rattle.ct_values.specs.Fitting.{HasNodeSort}

-- the node has the sort, and the value
pub record HasTree (d : Declarations) (g : Nodes) (s : SortId) (v : Value) (n : NodeId) : Type 0 where
  pub sorted : HasNodeSort d g n s
  pub agrees : AgreeAlways (node_point g n) (point [] v)

-- such a node was there, or it was put at the end
abbrev pub IsAdded : Nodes → Node → Nodes → Type 0
IsAdded g node new = (new ≡ g) ⊎ (new ≡ g ++ node ∷ [])

-- a node was found for the value, or there is no value
abbrev pub IsNodeOf : Declarations → SortId → Option Value → Nodes → Option NodeId → Type 0
IsNodeOf d s None g found = found ≡ None
IsNodeOf d s (Some v) g None = ⊥
IsNodeOf d s (Some v) g (Some n) = HasTree d g s v n

-- each node has the sort of the field, and the value, one for one
abbrev pub HaveTrees : Declarations → Nodes → List SelId → Values → List NodeId → Type 0
HaveTrees d g [] no_values [] = Unit {0}
HaveTrees d g (s ∷ ss) (with_value v vs) (n ∷ ns) = HasTree d g (field_sort_id d s) v n × HaveTrees d g ss vs ns
HaveTrees d g ss vs ns = ⊥

-- nodes were found for the values, or there are no such values
abbrev pub AreFound : Declarations → List SelId → Option Values → Nodes → Option (List NodeId) → Type 0
AreFound d fields None g found = found ≡ None
AreFound d fields (Some vs) g None = ⊥
AreFound d fields (Some vs) g (Some ns) = HaveTrees d g fields vs ns

-- nodes were found for the values of these fields that the expressions say, or they say none
abbrev pub AreNodesOf : Declarations → List SelId → Expressions → Nodes → Option (List NodeId) → Type 0
AreNodesOf d fields es g found = AreFound d fields (trees_at d (map (field_sort_id d) fields) es) g found

-- the selectors are those of the constructor
abbrev pub AreFieldsOf : Declarations → CtorId → List SelId → Type 0
AreFieldsOf d c fields = option_map (λ (ctor : Constructor). ctor.sels) (slice_get d.ctors c.0) ≡ Some fields
