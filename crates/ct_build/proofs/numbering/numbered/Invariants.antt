use Rattle.ct_build.proofs.ValueLemmas.{AreFirstNumbered}
use Rattle.ct_build.proofs.numbering.numbered.Given as goal

abbrev pub invariant-loop-t : goal.invariant-loop-t
invariant-loop-t l = AreFirstNumbered l.classes l.reserved.items l.t l.nodes.items
