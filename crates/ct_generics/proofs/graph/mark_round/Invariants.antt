use Rattle.ct_generics.proofs.MarkLemmas.{IsRound}
use Rattle.ct_generics.proofs.graph.mark_round.Given as goal

abbrev pub invariant-loop-i : goal.invariant-loop-i
invariant-loop-i l = IsRound l.graph l.initial.marks l.marks l.changed l.i
