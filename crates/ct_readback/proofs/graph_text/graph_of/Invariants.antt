use Rattle.std.proofs.Common.{◌≡◌, ◌<◌, ℕ, Some, length, slice_get}
use Rattle.ct_sorts.specs.declared.ids.SortId.{SortId}
use Rattle.ct_sexpr.specs.View.{expressions_of}
use Rattle.ct_readback.specs.Nodes.{said_at}
use Rattle.ct_readback.proofs.graph_text.graph_of.Given as goal

abbrev pub invariant-loop-i : goal.invariant-loop-i
invariant-loop-i l =
    (length l.nodes.items ≡ l.i) × ((j : ℕ) (s : SortId) → j < l.i → slice_get l.sorts j ≡ Some s → said_at l.sig (expressions_of l.rows) j s ≡ slice_get l.nodes.items j)
