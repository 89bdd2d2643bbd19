use Rattle.std.proofs.Common.{length}
use Rattle.ct_operators.proofs.ChosenLemmas.{Choosing}
use Rattle.ct_operators.proofs.choosing.choices.Given as goal

abbrev pub invariant-loop-rest : goal.invariant-loop-rest
invariant-loop-rest l = Choosing l.sig l.initial.table l.table l.guarded l.initial.term l.term l.rest

abbrev pub decreases-loop-rest : goal.decreases-loop-rest
decreases-loop-rest l = length l.rest
