use Rattle.std.proofs.Common.{length}
use Rattle.ct_operators.proofs.OperatorLemmas.{Folding}
use Rattle.ct_operators.proofs.operators.exclusive_of.Given as goal

abbrev pub invariant-loop-rest : goal.invariant-loop-rest
invariant-loop-rest l = Folding l.sig l.initial.table l.table l.initial.left l.others l.left l.rest

abbrev pub decreases-loop-rest : goal.decreases-loop-rest
decreases-loop-rest l = length l.rest
