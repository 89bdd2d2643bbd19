use Rattle.ct_engine.proofs.AgainLemmas.{unset_variables}
use Rattle.ct_engine.proofs.guided.free_variable.Goals as goal

pub returns : goal.returns
returns c = record { free = unset_variables c.args.search.now.variables c.args.search.now.trail c.args.place c.unset_variable.result c.unset_variable.ensures.unset }
