use Rattle.std.proofs.Common.{sym}
use Rattle.ct_step.proofs.cache.keep_model.Goals as goal

pub new_model-requires-clause-proper : goal.new_model-requires-clause-proper
new_model-requires-clause-proper c = c.requires.proper c.in-Sat.interp c.in-Sat.is
