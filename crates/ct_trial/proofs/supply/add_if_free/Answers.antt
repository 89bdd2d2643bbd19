use Rattle.ct_trial.proofs.GraphLemmas.{appended_none}
use Rattle.ct_trial.proofs.supply.add_if_free.Goals as goal

pub returns-clause-appended : goal.returns-clause-appended
returns-clause-appended c = appended_none c.args.graph.now
