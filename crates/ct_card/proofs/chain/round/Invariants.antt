use Rattle.ct_card.proofs.RankLemmas.{IsRound}
use Rattle.ct_card.proofs.chain.round.Given as goal

abbrev pub invariant-loop-rule : goal.invariant-loop-rule
invariant-loop-rule l = IsRound l.rules l.fn.ranks.items l.fn.order.items l.ranks.items l.order.items l.rule-index l.fired
