use Rattle.std.proofs.Common.{◌<◌}
use Rattle.ct_sexpr.specs.View.{expressions_of}
use Rattle.ct_sorts.specs.declared.ids.SortId.{SortId}
use Rattle.ct_readback.specs.Nodes.{CanHave}
use Rattle.ct_readback.specs.Descent.{Keeps, AreKnown}
use Rattle.ct_readback.proofs.descent.some_had.Given as goal

abbrev pub invariant-loop-s : goal.invariant-loop-s
invariant-loop-s l =
    Keeps l.initial.known.items l.known.items × AreKnown l.sig (expressions_of l.rows) l.known.items × ((t : SortId) → t.0 < l.s → CanHave l.sig (expressions_of l.rows) l.i t → ⊥)
