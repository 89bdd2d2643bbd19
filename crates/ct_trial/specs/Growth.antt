-- Interpretations that grow: functions get tables, and tables get rows.
use Rattle.std.specs.Prelude.{◌≡◌, ℕ, ◌<◌, ◌≤◌, List, [], ◌∷◌, ◌++◌, length, map, Option, None, Some, slice_get, slice_set}
use Rattle.ct_sorts.specs.Declarations.{Declarations}
use Rattle.ct_sorts.specs.Grown.{Begins}
use Rattle.ct_sorts.specs.declared.ids.FunId.{FunId}
use Rattle.ct_sorts.specs.declared.ids.SortId.{SortId}
use Rattle.ct_values.specs.declared.node.NodeId.{NodeId}
use Rattle.ct_values.specs.declared.node.Node.{Node}
use Rattle.ct_values.specs.Graph.{Nodes, HasChildrenBelow}
use Rattle.ct_values.specs.Value.{Value}
use Rattle.ct_terms.specs.declared.ids.TermId.{TermId}
use Rattle.ct_terms.specs.declared.term.Core.TheVariants.{Apply}
use Rattle.ct_terms.specs.Terms.{Terms}
use Rattle.ct_eval.specs.declared.interp.Row.{Row}
use Rattle.ct_eval.specs.declared.interp.Table.{Table}
use Rattle.ct_eval.specs.declared.interp.Interp.{Interp}
use Rattle.ct_eval.specs.LookUp.{row_for}
use Rattle.ct_eval.specs.Evaluation.{value_of}

-- the table without rows that gives this node
abbrev pub constant : NodeId → Table
constant default = record { rows = []; default = default }

-- the tables have no rows
abbrev pub HaveNoRows : List Table → Type 0
HaveNoRows tables = (t : ℕ) (table : Table) → slice_get tables t ≡ Some table → table.rows ≡ []

-- the table with one row more, after its own
abbrev pub with_row : Table → Row → Table
with_row table row = record table { rows = table.rows ++ row ∷ [] }

-- the table with this number has one row more, after its own
abbrev pub AddsRow : List Table → List Table → ℕ → Row → Type 0
AddsRow old new number row = (table : Table) × (slice_get old number ≡ Some table) × (new ≡ slice_set old number (with_row table row))

-- the interpretation with these tables of functions
abbrev pub with_functions : Interp → List Table → Interp
with_functions i funs = record i { funs = funs }

-- the graph goes on from another one, by nodes whose children come before them
pub record IsAppended (old new : Nodes) : Type 0 where
  pub longer : Begins old new
  pub before : (n : ℕ) (node : Node) → length old ≤ n → slice_get new n ≡ Some node → HasChildrenBelow n node

-- the table has a row for these arguments
abbrev pub HasRow : Nodes → Option Table → List Value → Type 0
HasRow g None values = ⊥
HasRow g (Some table) values = (n : NodeId) × (row_for g table.rows values ≡ Some n)

-- each of the first terms, so many, that applies a function has a row for its arguments
abbrev pub AreRowed : Declarations → Interp → Terms → ℕ → Type 0
AreRowed d i terms count =
    (t : ℕ) (f : FunId) (args : List TermId) (sort : SortId) → t < count → slice_get terms t ≡ Some (Apply f args, sort)
    → HasRow i.graph (slice_get i.funs f.0) (map (value_of d i terms) args)
