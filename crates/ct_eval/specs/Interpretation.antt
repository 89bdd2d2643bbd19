-- Interpretations: a graph of values, a table for each function, and a table for each selector where it is wrongly applied
-- (SMT-LIB 2.7, section 5.3; Reynolds and Blanchette 2015). An uninterpreted sort is the natural numbers, and a wrongly applied selector may
-- have any values.
use Rattle.std.specs.Prelude.{◌≡◌, ℕ, List, [], ◌∷◌, length, Some, slice_get}
use Rattle.std.specs.List.{AllZip}
use Rattle.ct_sorts.specs.declared.ids.SortId.{SortId}
use Rattle.ct_sorts.specs.Declarations.{Declarations, Constructor, Selector, Function}
use Rattle.ct_values.specs.Graph.{Nodes}
use Rattle.ct_values.specs.Fitting.{HasNodeSort}
use Rattle.ct_values.specs.WellFormed.{IsWellFormedGraph}
use Rattle.ct_eval.specs.declared.interp.Row.{Row}
use Rattle.ct_eval.specs.declared.interp.Table.{Table}
use Rattle.ct_eval.specs.declared.interp.Interp.{Interp}

-- the row takes nodes of these sorts and gives one of this sort
pub record FitsRow (d : Declarations) (g : Nodes) (args : List SortId) (result : SortId) (row : Row) : Type 0 where
  pub args_fit : AllZip (HasNodeSort d g) row.args args
  pub result_fits : HasNodeSort d g row.result result

-- so do all rows of the table, and its default is of this sort
pub record FitsTable (d : Declarations) (g : Nodes) (args : List SortId) (result : SortId) (table : Table) : Type 0 where
  pub rows_fit : (i : ℕ) (row : Row) → slice_get table.rows i ≡ Some row → FitsRow d g args result row
  pub default_fits : HasNodeSort d g table.default result

-- a table for each function, over the sorts of its arguments and its result
pub record HasFunctions (d : Declarations) (g : Nodes) (funs : List Table) : Type 0 where
  pub one_each : length funs ≡ length d.functions
  pub fit : (f : ℕ) (function : Function) (table : Table) → slice_get d.functions f ≡ Some function → slice_get funs f ≡ Some table → FitsTable d g function.args function.result table

-- a table for each selector, over the sort of its constructor
pub record HasSelectors (d : Declarations) (g : Nodes) (offs : List Table) : Type 0 where
  pub one_each : length offs ≡ length d.sels
  pub fit : (s : ℕ) (selector : Selector) (ctor : Constructor) (table : Table) → slice_get d.sels s ≡ Some selector → slice_get d.ctors selector.ctor.0 ≡ Some ctor → slice_get offs s ≡ Some table → FitsTable d g (ctor.sort ∷ []) selector.sort table

-- the interpretation is one of these declarations: values of datatypes are finite, and there is a table for each function and each selector
pub record IsProper (d : Declarations) (i : Interp) : Type 0 where
  pub graph : IsWellFormedGraph d i.graph
  pub functions : HasFunctions d i.graph i.funs
  pub selectors : HasSelectors d i.graph i.offs
