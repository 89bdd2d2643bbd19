use Rattle.ct_sexpr.specs.View.{expressions_of}
use Rattle.ct_readback.specs.Descent.{Keeps, AreKnown}
use Rattle.ct_readback.proofs.KnownLemmas.{AreSortsSoFar}
use Rattle.ct_readback.proofs.descent.some_sorts.Given as goal

abbrev pub invariant-loop-i : goal.invariant-loop-i
invariant-loop-i l =
    AreKnown l.sig (expressions_of l.rows) l.known.items × Keeps l.reached l.known.items × AreSortsSoFar l.sig (expressions_of l.rows) l.reached l.sorts.items l.i
