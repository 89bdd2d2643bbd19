use Rattle.ct_engine.proofs.TaskLemmas.{IsOfOneTask-then}
use Rattle.ct_engine.proofs.opening.imply.Goals as goal

pub returns-clause-same : goal.returns-clause-same
returns-clause-same c = IsOfOneTask-then c.args.course.now c.propagate.new.course c.propose_all.new.course c.propagate.ensures.same c.in_ok-propose_all.ensures.same
