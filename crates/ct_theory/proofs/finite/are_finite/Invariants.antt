use Rattle.ct_theory.proofs.FiniteLemmas.{AreFiniteBelow}
use Rattle.ct_theory.proofs.finite.are_finite.Given as goal

abbrev pub invariant-loop-t : goal.invariant-loop-t
invariant-loop-t l = AreFiniteBelow l.sig l.table l.t
