use Rattle.ct_eval.proofs.ListLemmas.{EachBelow}
use Rattle.ct_eval.proofs.FittingLemmas.{FitsFunction}
use Rattle.ct_eval.proofs.proper.has_functions.Given as goal

-- the tables so far fit
abbrev pub invariant-loop-f : goal.invariant-loop-f
invariant-loop-f l = EachBelow (FitsFunction l.sig l.graph) l.funs l.f
