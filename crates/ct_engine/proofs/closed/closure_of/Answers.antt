use Rattle.ct_engine.proofs.PrepareLemmas.{closure_fits}
use Rattle.ct_engine.proofs.closed.closure_of.Goals as goal

pub returns-in-Ok-clause-fits : goal.returns-in-Ok-clause-fits
returns-in-Ok-clause-fits c =
    closure_fits c.args.sig.now _ c.close.new.table c.in-Ok.ensures.closure c.in-Ok.ensures.few
