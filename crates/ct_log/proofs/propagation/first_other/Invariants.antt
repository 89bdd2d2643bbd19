use Rattle.std.proofs.Common.{List, take, All}
use Rattle.ct_terms.specs.declared.ids.Lit.{Lit}
use Rattle.ct_terms.specs.Propagation.{IsFalseIn}
use Rattle.ct_log.specs.Marks.{AreMarked}
use Rattle.ct_log.proofs.propagation.first_other.Given as goal

abbrev pub invariant-loop-l : goal.invariant-loop-l
invariant-loop-l l = (set : List Lit) → AreMarked l.marks set → All (IsFalseIn set) (take l.l-index l.clause)
