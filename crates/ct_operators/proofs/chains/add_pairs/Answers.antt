use Rattle.ct_operators.proofs.ChainLemmas.{added_step}
use Rattle.ct_operators.proofs.chains.add_pairs.Goals as goal

pub loop-rest-preserved : goal.loop-rest-preserved
loop-rest-preserved c = added_step c.loop-rest.found.items _ c.args.first _ c.loop-rest.rest.now _ c.in-len1-up.len_at_least c.in_ok-push.ensures.items c.loop-rest.invariant
