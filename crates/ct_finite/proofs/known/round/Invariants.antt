use Rattle.ct_finite.proofs.RoundLemmas.{IsRound}
use Rattle.ct_finite.proofs.known.round.Given as goal

abbrev pub invariant-loop-s : goal.invariant-loop-s
invariant-loop-s l = IsRound l.sig l.fn.counts.items l.counts.items l.s l.more
