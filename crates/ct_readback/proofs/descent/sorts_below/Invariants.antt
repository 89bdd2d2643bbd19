use Rattle.ct_sexpr.specs.View.{expressions_of}
use Rattle.ct_readback.proofs.ReachedLemmas.{AreSoFar}
use Rattle.ct_readback.proofs.descent.sorts_below.Given as goal

abbrev pub invariant-loop-place : goal.invariant-loop-place
invariant-loop-place l = AreSoFar l.sig l.fn.s (expressions_of l.rows) l.descent l.place
