use Rattle.ct_step.proofs.PrintLemmas.{core_done}
use Rattle.ct_step.proofs.cores.unsat_core.Goals as goal

pub returns : goal.returns
returns c = record { done = λ number. core_done c.args.state.now c.core_answer.new.state number c.core_answer.result c.core_answer.ensures.printed; cache = c.core_answer.ensures.cache }
