use Rattle.std.proofs.Common.{length}
use Rattle.ct_operators.proofs.ImplyingLemmas.{Implying}
use Rattle.ct_operators.proofs.operators.implied_by.Given as goal

abbrev pub invariant-loop-rest : goal.invariant-loop-rest
invariant-loop-rest l = Implying l.sig l.initial.table l.table l.others l.initial.term l.term l.rest

abbrev pub decreases-loop-rest : goal.decreases-loop-rest
decreases-loop-rest l = length l.rest
