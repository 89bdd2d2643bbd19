use Rattle.std.proofs.Common.{◌≡◌, drop, length}
use Rattle.ct_sexpr.specs.View.{expressions_of}
use Rattle.ct_readback.specs.GraphText.{are_rows}
use Rattle.ct_readback.proofs.graph_text.are_rows.Given as goal

abbrev pub invariant-loop-index : goal.invariant-loop-index
invariant-loop-index l = are_rows (length l.rows) l.index (expressions_of (drop l.index l.rows)) ≡ are_rows (length l.rows) 0 (expressions_of l.rows)
