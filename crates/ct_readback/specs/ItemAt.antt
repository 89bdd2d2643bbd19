-- What an item of a model says over declarations: a table of values. In an interpretation it is a table of nodes that have these values.
use Rattle.std.specs.Prelude.{◌≡◌, ℕ, suc, true, ◌==◌, List, [], ◌∷◌, ◌++◌, length, Contains, Some, None, MatchBool}
use Rattle.std.specs.List.{AllZip, flat_map}
use Rattle.ct_sorts.specs.declared.ids.SortId.{SortId}
use Rattle.ct_sorts.specs.Declarations.{Declarations}
use Rattle.ct_sexpr.specs.Expression.{Expression, Expressions, none, more}
use Rattle.ct_values.specs.declared.node.NodeId.{NodeId}
use Rattle.ct_values.specs.Graph.{Nodes}
use Rattle.ct_values.specs.Agreement.{Point, node_point, AgreeAlways}
use Rattle.ct_eval.specs.declared.interp.Row.{Row}
use Rattle.ct_eval.specs.declared.interp.Table.{Table}
use Rattle.ct_readback.specs.ValueAt.{IsValueAt}
use Rattle.ct_readback.specs.Cycles.{HasDataCycle}
use Rattle.ct_readback.specs.Rows.{equation_value, conjuncts, body_row}
use Rattle.ct_readback.specs.ItemText.{Due, ItemText, item_in, has_form, is_heading}

-- the values of a row, and those of a table
pub record RowValues : Type 0 where
  pub args : List Point
  pub result : Point

pub record TableValues : Type 0 where
  pub rows : List RowValues
  pub default : Point

-- the equation says that the parameter number i is this value of the sort
pub record IsEquationAt (d : Declarations) (i : ℕ) (s : SortId) (e : Expression) (p : Point) : Type 0 where
  pub text : Expression
  pub written : equation_value i e ≡ Some text
  pub value : IsValueAt d s text p

-- so do these of the parameters from i on, one for each
abbrev pub AreEquationsAt : Declarations → ℕ → List SortId → Expressions → List Point → Type 0
AreEquationsAt d i [] none [] = Unit {0}
AreEquationsAt d i (s ∷ ss) (more e es) (p ∷ ps) = IsEquationAt d i s e p × AreEquationsAt d (suc i) ss es ps
AreEquationsAt d i ss es ps = ⊥

-- the test of several parameters says that they are these values
pub record AreConjunctsAt (d : Declarations) (sorts : List SortId) (test : Expression) (values : List Point) : Type 0 where
  pub equations : Expressions
  pub written : conjuncts (length sorts) test ≡ Some equations
  pub said : AreEquationsAt d 0 sorts equations values

-- the test says that the parameters are these values
abbrev pub IsTestAt : Declarations → List SortId → Expression → List Point → Type 0
IsTestAt d sorts test values =
    MatchBool (length sorts == 1) (AreEquationsAt d 0 sorts (more test none) values) (AreConjunctsAt d sorts test values)

-- the test and the result say the values of this row, where the arguments are of these sorts and the result is of this one
pub record IsRowAt (d : Declarations) (args : List SortId) (s : SortId) (test result : Expression) (row : RowValues) : Type 0 where
  pub args_are : IsTestAt d args test row.args
  pub result_is : IsValueAt d s result row.result

-- the body has this first row and this rest
pub record HasRow (d : Declarations) (args : List SortId) (s : SortId) (body rest : Expression) (row : RowValues) : Type 0 where
  pub test : Expression
  pub result : Expression
  pub written : body_row (length args) body ≡ Some (test, result, rest)
  pub said : IsRowAt d args s test result row

-- the body says these rows and this default
abbrev pub IsBodyAt : Declarations → List SortId → SortId → Expression → List RowValues → Point → Type 0
IsBodyAt d args s body [] default = (body_row (length args) body ≡ None) × IsValueAt d s body default
IsBodyAt d args s body (row ∷ rows) default = (rest : Expression) × HasRow d args s body rest row × IsBodyAt d args s rest rows default

abbrev pub SaysTable : Declarations → List SortId → SortId → Expression → TableValues → Type 0
SaysTable d args s body values = IsBodyAt d args s body values.rows values.default

-- the item is the one that is due, and says these values
pub record IsItemAt (d : Declarations) (due : Due) (e : Expression) (values : TableValues) : Type 0 where
  pub text : ItemText
  pub written : item_in due.off e ≡ Some text
  pub heading : is_heading d due text ≡ true
  pub body : SaysTable d due.args due.result text.body values

-- all values of a table
abbrev pub values_in_row : RowValues → List Point
values_in_row row = row.args ++ row.result ∷ []

abbrev pub values_in : TableValues → List Point
values_in values = flat_map values_in_row values.rows ++ values.default ∷ []

-- some of the values is written as a graph with a cycle of nodes of datatypes
abbrev pub HasCycle : Declarations → List Point → Type 0
HasCycle d points = (p : Point) × Contains points p × HasDataCycle d p.graph

-- the node of the graph has this value
abbrev pub HasValue : Nodes → Point → NodeId → Type 0
HasValue g p n = AgreeAlways (node_point g n) p

-- the row has these values, and so has the table
pub record IsRowFor (g : Nodes) (values : RowValues) (row : Row) : Type 0 where
  pub args : AllZip (HasValue g) values.args row.args
  pub result : HasValue g values.result row.result

pub record IsTableFor (g : Nodes) (values : TableValues) (table : Table) : Type 0 where
  pub rows : AllZip (IsRowFor g) values.rows table.rows
  pub default : HasValue g values.default table.default

-- the item has its form, fits the declarations, and no value in it is cyclic: these are its values
pub record IsRight (d : Declarations) (due : Due) (e : Expression) (values : TableValues) : Type 0 where
  pub form : has_form due e ≡ true
  pub fits : IsItemAt d due e values
  pub acyclic : HasCycle d (values_in values) → ⊥

-- the table is what the item says
abbrev pub IsRead : Declarations → Nodes → Due → Expression → Table → Type 0
IsRead d g due e table = (values : TableValues) × IsRight d due e values × IsTableFor g values table
