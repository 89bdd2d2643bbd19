use Rattle.std.proofs.Common.{take}
use Rattle.ct_equivalence.specs.Parents.{AreAdded}
use Rattle.ct_equivalence.proofs.parents.add_to_each.Given as goal

abbrev pub invariant-loop-t : goal.invariant-loop-t
invariant-loop-t l = AreAdded l.initial.rows l.rows (take l.t-index l.terms) l.p
