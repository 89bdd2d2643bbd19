use Rattle.std.proofs.Common.{length}
use Rattle.ct_theory.specs.Steps.{AreUnderWay}
use Rattle.ct_theory.proofs.cycle.explain_hops.Given as goal

abbrev pub invariant-loop-rest : goal.invariant-loop-rest
invariant-loop-rest l = AreUnderWay l.classes l.hops l.rest l.explained.items l.proof.steps.items l.first

abbrev pub decreases-loop-rest : goal.decreases-loop-rest
decreases-loop-rest l = length l.rest
