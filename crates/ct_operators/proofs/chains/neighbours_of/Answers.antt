use Rattle.ct_operators.proofs.ChainLemmas.{neighbours_step}
use Rattle.ct_operators.proofs.chains.neighbours_of.Goals as goal

pub loop-rest-preserved : goal.loop-rest-preserved
loop-rest-preserved c = neighbours_step c.loop-rest.found.items _ c.loop-rest.left _ c.loop-rest.rest.now _ c.in-len1-up.len_at_least c.in_ok-push.ensures.items c.loop-rest.invariant
