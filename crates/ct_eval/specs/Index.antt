-- The rows of tables in one map, from the table and the representatives of the arguments to the result of the first row.
use Rattle.std.specs.Prelude.{◌≡◌, ℕ, ◌≤◌, Bool, List, length, Some, None, slice_get}
use Rattle.std.specs.List.{AllZip}
use Rattle.indexmap.specs.IndexMap.{IndexMap, get}
use Rattle.ct_values.specs.declared.node.NodeId.{NodeId}
use Rattle.ct_values.specs.Graph.{Nodes, IsClosed}
use Rattle.ct_values.specs.Value.{Value}
use Rattle.ct_values.specs.Agreement.{point, node_point}
use Rattle.ct_values.specs.Sharing.{IsRepresentative}
use Rattle.ct_eval.specs.declared.interp.Row.{Row}
use Rattle.ct_eval.specs.declared.interp.Table.{Table}
use Rattle.ct_eval.specs.declared.index.RowKey.{RowKey}
use Rattle.ct_eval.specs.contracts.index.RowKeyPartialEq.TheImpl as derived
use Rattle.ct_eval.specs.LookUp.{row_for}
use Rattle.ct_eval.specs.Valued.{IsLonger}

-- the nodes are the representatives in the longer graph of these values over g, one for one
abbrev pub AreRepresentatives : Nodes → Nodes → List NodeId → List Value → Type 0
AreRepresentatives g longer nodes values = AllZip (λ n v. IsRepresentative longer (point g v) n) nodes values

-- the nodes are the representatives of these nodes, one for one
abbrev pub AreRepresentativeNodes : Nodes → List NodeId → List NodeId → Type 0
AreRepresentativeNodes g representatives nodes = AllZip (λ m n. IsRepresentative g (node_point g n) m) representatives nodes

-- the key of a row: its table, and the representatives of its arguments
abbrev pub row_key : ℕ → List NodeId → RowKey
row_key table args = record { table = table; args = args }

-- the derived test of two keys
abbrev pub same_row_key : RowKey → RowKey → Bool
same_row_key = derived.eq-value.it

-- for all arguments, also such as were added to the graph, the map has under the table what the first of these rows gives
abbrev pub HasRows : {S : Type 0} → Nodes → ℕ → List Row → IndexMap RowKey NodeId S → Type 0
HasRows g t rows index = (longer : Nodes) (args : List NodeId) (values : List Value)
    → IsLonger g longer
    → AreRepresentatives g longer args values
    → get same_row_key index (row_key t args) ≡ row_for g rows values

-- the map has the rows of each table
abbrev pub IsIndex : {S : Type 0} → Nodes → List Table → IndexMap RowKey NodeId S → Type 0
IsIndex g tables index = (t : ℕ) (table : Table) → slice_get tables t ≡ Some table → HasRows g t table.rows index

-- it has them also where nodes are added to the graph
abbrev pub KeepsRows : {S : Type 0} → Nodes → ℕ → List Row → IndexMap RowKey NodeId S → Type 0
KeepsRows g t rows index = (longer : Nodes) → IsClosed longer → IsLonger g longer → HasRows longer t rows index

-- the map has the rows of each table, also where nodes are added to the graph, and no rows of other tables
pub record AreIndexed {S : Type 0} (g : Nodes) (tables : List Table) (index : IndexMap RowKey NodeId S) : Type 0 where
  pub rows : (t : ℕ) (table : Table) → slice_get tables t ≡ Some table → KeepsRows g t table.rows index
  pub only : (t : ℕ) (args : List NodeId) → length tables ≤ t → get same_row_key index (row_key t args) ≡ None
