use Rattle.std.proofs.Common.{◌≡◌, ℕ, ◌<◌, ◌≤◌, List, Some, None, slice_get}
use Rattle.indexmap.specs.IndexMap.{get}
use Rattle.ct_values.specs.declared.node.NodeId.{NodeId}
use Rattle.ct_eval.specs.declared.interp.Table.{Table}
use Rattle.ct_eval.specs.Index.{KeepsRows, row_key, same_row_key}
use Rattle.ct_eval.proofs.index.indexed.Given as goal

abbrev pub invariant-loop-t : goal.invariant-loop-t
invariant-loop-t l =
    ((n : ℕ) (table : Table) → n < l.t → slice_get l.tables n ≡ Some table → KeepsRows l.shared n table.rows l.index)
    × ((n : ℕ) (args : List NodeId) → l.t ≤ n → get same_row_key l.index (row_key n args) ≡ None)
