-- What was found for the values of an item: nodes, a cycle, or that something does not fit.
use Rattle.std.specs.Prelude.{List}
use Rattle.std.specs.List.{AllZip}
use Rattle.ct_sorts.specs.declared.ids.SortId.{SortId}
use Rattle.ct_sorts.specs.Declarations.{Declarations}
use Rattle.ct_values.specs.declared.node.NodeId.{NodeId}
use Rattle.ct_values.specs.Graph.{Nodes}
use Rattle.ct_values.specs.Agreement.{Point}
use Rattle.ct_values.specs.Fitting.{HasNodeSort}
use Rattle.ct_eval.specs.declared.interp.Row.{Row}
use Rattle.ct_eval.specs.declared.interp.Table.{Table}
use Rattle.ct_eval.specs.Interpretation.{FitsRow, FitsTable}
use Rattle.ct_readback.specs.declared.value.Said.{Said}
use Rattle.ct_readback.specs.declared.value.Said.TheVariants.{Nothing, Cycle, Value}
use Rattle.ct_readback.specs.declared.item.Part.{Part}
use Rattle.ct_readback.specs.declared.item.Part.TheVariants as parts
use Rattle.ct_readback.specs.Cycles.{HasDataCycle}
use Rattle.ct_readback.specs.ItemAt.{RowValues, TableValues, HasCycle, HasValue, IsRowFor, IsTableFor}

-- the node has the sort and the value
pub record IsNodeFor (d : Declarations) (g : Nodes) (s : SortId) (p : Point) (n : NodeId) : Type 0 where
  pub sorted : HasNodeSort d g n s
  pub value : HasValue g p n

-- what a value text says
abbrev pub IsSaid : Declarations → Nodes → (Point → Type 0) → SortId → Said → Type 0
IsSaid d g Says s Nothing = (p : Point) → Says p → ⊥
IsSaid d g Says s Cycle = (p : Point) × Says p × HasDataCycle d p.graph
IsSaid d g Says s (Value n) = (p : Point) × Says p × (HasDataCycle d p.graph → ⊥) × IsNodeFor d g s p n

-- nodes have the sorts and the values, one for one
abbrev pub AreNodesFor : Declarations → Nodes → List SortId → List Point → List NodeId → Type 0
AreNodesFor d g sorts values nodes = AllZip (HasNodeSort d g) nodes sorts × AllZip (HasValue g) values nodes

-- what a part of an item says: things of a kind, with the values in them
abbrev pub IsPart : {X T : Type 0} → Declarations → (X → Type 0) → (X → List Point) → (X → T → Type 0) → Part T → Type 0
IsPart {X} d Says points IsFor parts.Misfit = (x : X) → Says x → ⊥
IsPart {X} d Says points IsFor parts.Cycle = (x : X) × Says x × HasCycle d (points x)
IsPart {X} d Says points IsFor (parts.Fine t) = (x : X) × Says x × (HasCycle d (points x) → ⊥) × IsFor x t

-- the points themselves
abbrev pub all_points : List Point → List Point
all_points points = points

-- the row has the sorts and the values, and so has the table
pub record IsRowOf (d : Declarations) (g : Nodes) (args : List SortId) (s : SortId) (values : RowValues) (row : Row) : Type 0 where
  pub fits : FitsRow d g args s row
  pub values_are : IsRowFor g values row

pub record IsTableOf (d : Declarations) (g : Nodes) (args : List SortId) (s : SortId) (values : TableValues) (table : Table) : Type 0 where
  pub fits : FitsTable d g args s table
  pub values_are : IsTableFor g values table
