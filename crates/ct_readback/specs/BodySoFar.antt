-- How far a body was read: the values of its first rows, and what stands after them.
use Rattle.std.specs.Prelude.{◌≡◌, ℕ, true, false, MatchBool, List, ◌++◌, Bool, Some}
use Rattle.std.specs.List.{AllZip, flat_map}
use Rattle.ct_sorts.specs.declared.ids.SortId.{SortId}
use Rattle.ct_sorts.specs.Declarations.{Declarations}
use Rattle.ct_sexpr.specs.Expression.{Expression, Expressions, none, more}
use Rattle.ct_values.specs.Graph.{Nodes}
use Rattle.ct_values.specs.Agreement.{Point}
use Rattle.ct_eval.specs.declared.interp.Row.{Row}
use Rattle.ct_readback.specs.Rows.{body_row, after_tests}
use Rattle.ct_readback.specs.ItemAt.{RowValues, TableValues, values_in_row, HasCycle, IsBodyAt, SaysTable}
use Rattle.ct_readback.specs.Said.{IsRowOf}

-- the rows before this rest say these values, and where none of them is cyclic, the rows have them
pub record IsBodySoFar (d : Declarations) (args : List SortId) (s : SortId) (body : Expression) (g : Nodes) (left : Expression) (cyclic : Bool) (rows : List Row) : Type 0 where
  pub values : List RowValues
  pub forward : (later : List RowValues) (default : Point) → IsBodyAt d args s left later default → IsBodyAt d args s body (values ++ later) default
  pub backward : (all : List RowValues) (default : Point) → IsBodyAt d args s body all default → (later : List RowValues) × IsBodyAt d args s left later default
  pub cycle : cyclic ≡ true → HasCycle d (flat_map values_in_row values)
  pub acyclic : cyclic ≡ false → HasCycle d (flat_map values_in_row values) → ⊥
  pub rows_are : cyclic ≡ false → AllZip (IsRowOf d g args s) values rows

-- rows were read up to this rest; or they do not fit, and the body says no table
abbrev pub IsReadOn : Declarations → List SortId → SortId → Expression → Nodes → Expression → Bool → List Row → Bool → Type 0
IsReadOn d args s body g rest cyclic rows fits =
    MatchBool fits (IsBodySoFar d args s body g rest cyclic rows) ((values : TableValues) → SaysTable d args s body values → ⊥)

-- what is left of a body stands before these tests of a choice with this result, and this rest
abbrev pub StandsBefore : ℕ → Expressions → Expression → Expression → Expression → Type 0
StandsBefore parameters none result rest left = left ≡ rest
StandsBefore parameters (more test tests) result rest left = body_row parameters left ≡ Some (test, result, after_tests tests result rest)
