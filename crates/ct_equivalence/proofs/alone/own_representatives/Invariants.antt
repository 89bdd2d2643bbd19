use Rattle.ct_equivalence.specs.Partition.{AreAlone}
use Rattle.ct_equivalence.proofs.alone.own_representatives.Given as goal

abbrev pub invariant-loop-t : goal.invariant-loop-t
invariant-loop-t l = AreAlone l.t l.reps.items
