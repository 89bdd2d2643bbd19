-- How far a model was read: the tables of its first items.
use Rattle.std.specs.Prelude.{◌≡◌, ℕ, ◌+◌, false, List, [], length, Some, slice_get, Ok}
use Rattle.std.specs.List.{filter, range_with_len}
use Rattle.ct_sorts.specs.declared.ids.SortId.{SortId}
use Rattle.ct_sorts.specs.Declarations.{Declarations, Function, Selector}
use Rattle.ct_sexpr.specs.Expression.{Expression}
use Rattle.ct_values.specs.declared.node.NodeId.{NodeId}
use Rattle.ct_values.specs.Graph.{Nodes}
use Rattle.ct_values.specs.Fitting.{HasNodeSort}
use Rattle.ct_eval.specs.declared.interp.Table.{Table}
use Rattle.ct_card.specs.Sizes.{IsDefaultValue, Table as Sizes}
use Rattle.ct_model.specs.ModelText.{can_miss}
use Rattle.ct_readback.specs.ItemText.{Due, due_function, due_off}
use Rattle.ct_readback.specs.ItemRead.{IsItemRead}

-- the item at this place says the table
abbrev pub IsReadAt : Declarations → Nodes → List Expression → Due → ℕ → Table → Type 0
IsReadAt d g items due place table = (item : Expression) × (slice_get items place ≡ Some item) × IsItemRead d g due item (Ok table)

-- the first items say the tables of the first functions
pub record AreFunctions (d : Declarations) (g : Nodes) (items : List Expression) (count : ℕ) (tables : List Table) : Type 0 where
  pub long : length tables ≡ count
  pub each : (f : ℕ) (function : Function) (table : Table) → slice_get d.functions f ≡ Some function → slice_get tables f ≡ Some table
      → IsReadAt d g items (due_function function) f table

-- those of the first selectors that can be wrongly applied
abbrev pub first_offs : Declarations → ℕ → List ℕ
first_offs d count = filter (can_miss d) (range_with_len 0 count)

-- a node of the sort with its default value
pub record IsDefaultNode (d : Declarations) (sizes : Sizes) (g : Nodes) (s : SortId) (n : NodeId) : Type 0 where
  pub sorted : HasNodeSort d g n s
  pub value : IsDefaultValue d sizes g s.0 n

-- a table without rows, whose default is such a node
pub record IsOtherTable (d : Declarations) (sizes : Sizes) (g : Nodes) (s : SortId) (table : Table) : Type 0 where
  pub no_rows : table.rows ≡ []
  pub default : IsDefaultNode d sizes g s table.default

-- the items from the first place on say the tables of these, and each other selector has its sort's default value alone
pub record AreSelectors (d : Declarations) (sizes : Sizes) (g : Nodes) (items : List Expression) (first count : ℕ) (tables : List Table) : Type 0 where
  pub long : length tables ≡ count
  pub offs : (k s : ℕ) (due : Due) (table : Table) → slice_get (first_offs d count) k ≡ Some s → due_off d s ≡ Some due → slice_get tables s ≡ Some table
      → IsReadAt d g items due (first + k) table
  pub others : (s : ℕ) (selector : Selector) (table : Table) → can_miss d s ≡ false → slice_get d.sels s ≡ Some selector → slice_get tables s ≡ Some table → IsOtherTable d sizes g selector.sort table

-- the node that is kept for a sort, if there is one, has its default value
pub record AreDefaults (d : Declarations) (sizes : Sizes) (g : Nodes) (nodes : List NodeId) : Type 0 where
  pub each : (s : SortId) (n : NodeId) → slice_get nodes s.0 ≡ Some n → IsDefaultNode d sizes g s n
