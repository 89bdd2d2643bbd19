-- What was read of an item: a table, or the number of its error.
use Rattle.std.specs.Prelude.{ℕ, Result, Ok, Err}
use Rattle.ct_sorts.specs.Declarations.{Declarations}
use Rattle.ct_sexpr.specs.Expression.{Expression}
use Rattle.ct_values.specs.Graph.{Nodes}
use Rattle.ct_eval.specs.declared.interp.Table.{Table}
use Rattle.ct_readback.specs.ItemText.{Due}
use Rattle.ct_readback.specs.ItemAt.{TableValues, IsRight}
use Rattle.ct_readback.specs.ModelReads.{IsRefused}
use Rattle.ct_readback.specs.Said.{IsTableOf}

-- the item says this table, whose nodes have their sorts, or it is refused with this number
abbrev pub IsItemRead : Declarations → Nodes → Due → Expression → Result Table ℕ → Type 0
IsItemRead d g due e (Ok table) = (values : TableValues) × IsRight d due e values × IsTableOf d g due.args due.result values table
IsItemRead d g due e (Err code) = IsRefused d due e code
