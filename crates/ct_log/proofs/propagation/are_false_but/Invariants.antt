use Rattle.std.proofs.Common.{◌≡◌, ◌⊎◌, List, take, All}
use Rattle.ct_terms.specs.declared.ids.Lit.{Lit}
use Rattle.ct_terms.specs.Propagation.{IsFalseIn}
use Rattle.ct_log.specs.Marks.{AreMarked}
use Rattle.ct_log.proofs.propagation.are_false_but.Given as goal

abbrev pub invariant-loop-k : goal.invariant-loop-k
invariant-loop-k l = (set : List Lit) → AreMarked l.marks set → All (λ k. (k ≡ l.l) ⊎ IsFalseIn set k) (take l.k-index l.clause)
