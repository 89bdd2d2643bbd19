use Rattle.ct_sexpr.specs.View.{expressions_of}
use Rattle.ct_readback.proofs.KnownLemmas.{AreAskedSoFar}
use Rattle.ct_readback.proofs.descent.pairs_below.Given as goal

abbrev pub invariant-loop-place : goal.invariant-loop-place
invariant-loop-place l = AreAskedSoFar l.sig (expressions_of l.rows) l.known l.i l.fn.s l.pairs.keys l.place
