use Rattle.ct_eval.proofs.ListLemmas.{EachBelow}
use Rattle.ct_eval.proofs.FittingLemmas.{FitsSelector}
use Rattle.ct_eval.proofs.proper.has_selectors.Given as goal

-- the tables so far fit
abbrev pub invariant-loop-s : goal.invariant-loop-s
invariant-loop-s l = EachBelow (FitsSelector l.sig l.graph) l.offs l.s
