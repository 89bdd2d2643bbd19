use Rattle.ct_operators.proofs.ChainLemmas.{pairs_step}
use Rattle.ct_operators.proofs.chains.pairs_of.Goals as goal

pub loop-rest-preserved : goal.loop-rest-preserved
loop-rest-preserved c = pairs_step c.loop-rest.found.items _ _ c.loop-rest.rest.now _ c.in-len1-up.len_at_least c.in_ok-add_pairs.ensures.added c.loop-rest.invariant
