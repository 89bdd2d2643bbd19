-- Tables that get one more row, and what their rows say of terms.
use Rattle.std.specs.Prelude.{◌≡◌, ℕ, ◌<◌, ◌⊎◌, List, [], ◌∷◌, ◌++◌, map, Some, slice_get, slice_set}
use Rattle.ct_sorts.specs.declared.ids.FunId.{FunId}
use Rattle.ct_sorts.specs.declared.ids.SelId.{SelId}
use Rattle.ct_sorts.specs.Declarations.{Selector}
use Rattle.ct_values.specs.declared.node.NodeId.{NodeId}
use Rattle.ct_terms.specs.declared.ids.TermId.{TermId}
use Rattle.ct_terms.specs.declared.term.Core.TheVariants.{Apply, Sel}
use Rattle.ct_terms.specs.Terms.{Terms, Has}
use Rattle.ct_congr.specs.State.{State}
use Rattle.ct_eval.specs.EvaluationStep.{node_under}
use Rattle.ct_build.specs.ClassValues.{IsBuiltBy}
use Rattle.ct_eval.specs.declared.interp.Row.{Row}
use Rattle.ct_eval.specs.declared.interp.Table.{Table}

-- the table with the row after its own
abbrev pub with_row : Table → Row → Table
with_row table row = record { rows = table.rows ++ row ∷ []; default = table.default }

-- the table with this number has a row for these arguments
pub record HasRowFor (tables : List Table) (number : ℕ) (args : List NodeId) : Type 0 where
  pub table : Table
  pub index : ℕ
  pub row : Row
  pub at : slice_get tables number ≡ Some table
  pub listed : slice_get table.rows index ≡ Some row
  pub args_are : row.args ≡ args

-- the table with this number has the row after its own
abbrev pub AddsRow : List Table → List Table → ℕ → Row → Type 0
AddsRow old new number row = (table : Table) × (slice_get old number ≡ Some table) × (new ≡ slice_set old number (with_row table row))

-- it has a row for the arguments, and all tables are as they were; or it had none, and has the row after its own
abbrev pub AddsFirst : List Table → List Table → ℕ → Row → Type 0
AddsFirst old new number row =
    (HasRowFor old number row.args × (new ≡ old)) ⊎ ((HasRowFor old number row.args → ⊥) × AddsRow old new number row)

-- no two rows of a table are for one list of arguments
abbrev pub HaveOneRowEach : List Table → Type 0
HaveOneRowEach tables = (number i j : ℕ) (table : Table) (first second : Row) → slice_get tables number ≡ Some table
    → slice_get table.rows i ≡ Some first → slice_get table.rows j ≡ Some second → first.args ≡ second.args → i ≡ j

-- the row gives the node of an application of the function for the nodes of its arguments
pub record IsFunctionRow (terms : Terms) (nodes : List NodeId) (f : ℕ) (row : Row) : Type 0 where
  pub term : TermId
  pub args : List TermId
  pub stands : Has terms (Apply (record { 0 = f }) args) term.0
  pub args_are : row.args ≡ map (node_under nodes) args
  pub result_is : row.result ≡ node_under nodes term

-- the rows are of applications, and each application below the count has one row for its arguments
pub record AreFunctionRows (terms : Terms) (nodes : List NodeId) (count : ℕ) (tables : List Table) : Type 0 where
  pub only : (f index : ℕ) (table : Table) (row : Row) → slice_get tables f ≡ Some table → slice_get table.rows index ≡ Some row → IsFunctionRow terms nodes f row
  pub each : (t : TermId) (f : FunId) (args : List TermId) → t.0 < count → Has terms (Apply f args) t.0 → HasRowFor tables f.0 (map (node_under nodes) args)
  pub once : HaveOneRowEach tables

-- the term's class has no constructor term of the selector's constructor
abbrev pub IsWronglyApplied : State → Selector → TermId → Type 0
IsWronglyApplied state selector of = (args : List TermId) → IsBuiltBy state of selector.ctor args → ⊥

-- the row gives the node of a wrong application of the selector for the node of its argument
pub record IsSelectorRow (state : State) (nodes : List NodeId) (s : ℕ) (row : Row) : Type 0 where
  pub term : TermId
  pub of : TermId
  pub selector : Selector
  pub stands : Has state.terms (Sel (record { 0 = s }) of) term.0
  pub declared : slice_get state.declarations.sels s ≡ Some selector
  pub wrong : IsWronglyApplied state selector of
  pub args_are : row.args ≡ node_under nodes of ∷ []
  pub result_is : row.result ≡ node_under nodes term

-- the rows are of wrong applications, and each wrong application below the count has one row for its argument
pub record AreSelectorRows (state : State) (nodes : List NodeId) (count : ℕ) (tables : List Table) : Type 0 where
  pub only : (s index : ℕ) (table : Table) (row : Row) → slice_get tables s ≡ Some table → slice_get table.rows index ≡ Some row → IsSelectorRow state nodes s row
  pub each : (t : TermId) (s : SelId) (of : TermId) (selector : Selector) → t.0 < count → Has state.terms (Sel s of) t.0 → slice_get state.declarations.sels s.0 ≡ Some selector → IsWronglyApplied state selector of → HasRowFor tables s.0 (node_under nodes of ∷ [])
  pub once : HaveOneRowEach tables
