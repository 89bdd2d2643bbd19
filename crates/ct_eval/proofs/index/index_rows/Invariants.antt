use Rattle.std.proofs.Common.{◌≡◌, ℕ, List, [], take}
use Rattle.indexmap.specs.IndexMap.{get}
use Rattle.ct_values.specs.declared.node.NodeId.{NodeId}
use Rattle.ct_eval.specs.Index.{KeepsRows, row_key, same_row_key}
use Rattle.ct_eval.proofs.index.index_rows.Given as goal

abbrev pub invariant-loop-row : goal.invariant-loop-row
invariant-loop-row l =
    (KeepsRows l.shared l.number [] l.initial.index → KeepsRows l.shared l.number (take l.row-index l.rows) l.index)
    × ((other : ℕ) (args : List NodeId) → (other ≡ l.number → ⊥) → get same_row_key l.index (row_key other args) ≡ get same_row_key l.initial.index (row_key other args))
