-- Interpretations whose tables speak of nodes of the graph, and the same tables over a longer
-- graph.
use Rattle.std.specs.Prelude.{◌≡◌, ℕ, ◌<◌, List, ◌++◌, length, All, Some, slice_get}
use Rattle.ct_values.specs.Graph.{Nodes, IsClosed}
use Rattle.ct_eval.specs.declared.interp.Row.{Row}
use Rattle.ct_eval.specs.declared.interp.Table.{Table}
use Rattle.ct_eval.specs.declared.interp.Interp.{Interp}

-- the arguments and the result of the row are nodes of the graph
pub record IsRowOver (g : Nodes) (row : Row) : Type 0 where
  pub args : All (λ n. n.0 < length g) row.args
  pub result : row.result.0 < length g

-- so are those of each row of the table, and its default
pub record IsTableOver (g : Nodes) (table : Table) : Type 0 where
  pub rows : (i : ℕ) (row : Row) → slice_get table.rows i ≡ Some row → IsRowOver g row
  pub default : table.default.0 < length g

-- so is each of these tables
abbrev pub AreTablesOver : Nodes → List Table → Type 0
AreTablesOver g tables = (t : ℕ) (table : Table) → slice_get tables t ≡ Some table
    → IsTableOver g table

-- the graph is closed, and the tables are over it
pub record IsClosedInterp (i : Interp) : Type 0 where
  pub graph : IsClosed i.graph
  pub functions : AreTablesOver i.graph i.funs
  pub selectors : AreTablesOver i.graph i.offs

-- the same tables over the graph with these nodes after its own
abbrev pub with_nodes : Interp → Nodes → Interp
with_nodes i more = record i { graph = i.graph ++ more }
