use Rattle.ct_equivalence.specs.Parents.{AreParents}
use Rattle.ct_equivalence.proofs.parents.parents.Given as goal

abbrev pub invariant-loop-t : goal.invariant-loop-t
invariant-loop-t l = AreParents l.table l.t l.rows
