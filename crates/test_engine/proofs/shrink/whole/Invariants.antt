use Rattle.test_engine.proofs.ShrinkLemmas.{AreUpTo}
use Rattle.test_engine.proofs.shrink.whole.Given as goal

abbrev pub invariant-loop-place : goal.invariant-loop-place
invariant-loop-place l = AreUpTo l.place l.places.items
