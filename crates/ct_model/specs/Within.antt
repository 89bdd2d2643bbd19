-- Tables whose values are nodes of a graph.
use Rattle.std.specs.Prelude.{◌<◌, All, length}
use Rattle.ct_values.specs.declared.node.NodeId.{NodeId}
use Rattle.ct_values.specs.Graph.{Nodes}
use Rattle.ct_eval.specs.declared.interp.Row.{Row}
use Rattle.ct_eval.specs.declared.interp.Table.{Table}

-- there is a node of this number
abbrev pub IsNode : Nodes → NodeId → Type 0
IsNode g n = n.0 < length g

-- the row's arguments and its result are nodes
pub record IsRowWithin (g : Nodes) (row : Row) : Type 0 where
  pub args_within : All (IsNode g) row.args
  pub result_within : IsNode g row.result

-- so are those of all rows, and the default
pub record IsTableWithin (g : Nodes) (table : Table) : Type 0 where
  pub rows_within : All (IsRowWithin g) table.rows
  pub default_within : IsNode g table.default
