use Rattle.ct_engine.proofs.PrepareLemmas.{closure_fits}
use Rattle.ct_step.proofs.rehearsal.closes.Goals as goal

pub returns-in-Ok-close-clause-fits : goal.returns-in-Ok-close-clause-fits
returns-in-Ok-close-clause-fits c = closure_fits c.args.sig.now _ c.close.new.table c.in-Ok-close.ensures.closure c.in-Ok-close.ensures.few
