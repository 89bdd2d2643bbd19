use Rattle.ct_engine.proofs.TaskLemmas.{IsOfOneClosure-task, IsOfOneClosure-then}
use Rattle.ct_engine.proofs.TurnLemmas.{IsTheoryOf-then}
use Rattle.ct_engine.proofs.stages.pursue_for.Goals as goal

pub run-requires-clause-theory : goal.run-requires-clause-theory
run-requires-clause-theory c = IsTheoryOf-then c.args.course.now c.begin_round.new.course c.args.theory.now c.in_ok-begin_round.ensures.same c.requires.theory

pub returns-in-Spent-clause-same : goal.returns-in-Spent-clause-same
returns-in-Spent-clause-same c =
    IsOfOneClosure-then c.args.course.now c.begin_round.new.course c.run.new.course c.in_ok-begin_round.ensures.same (IsOfOneClosure-task c.begin_round.new.course c.run.new.course c.in_ok-ending.ensures.same)

pub returns-in-Spent-clause-ended : goal.returns-in-Spent-clause-ended
returns-in-Spent-clause-ended c = let h = rw c.in-Spent.is at c.in_ok-ending.ensures.ended in h.0

pub returns-in-Refuted-clause-same : goal.returns-in-Refuted-clause-same
returns-in-Refuted-clause-same c =
    IsOfOneClosure-then c.args.course.now c.begin_round.new.course c.run.new.course c.in_ok-begin_round.ensures.same (IsOfOneClosure-task c.begin_round.new.course c.run.new.course c.in_ok-ending.ensures.same)

pub returns-in-Refuted-clause-ended : goal.returns-in-Refuted-clause-ended
returns-in-Refuted-clause-ended c = (rw c.in-Refuted.is at c.in_ok-ending.ensures.ended, λ e. cc)

pub returns-in-Saturated-clause-same : goal.returns-in-Saturated-clause-same
returns-in-Saturated-clause-same c =
    IsOfOneClosure-then c.args.course.now c.begin_round.new.course c.run.new.course c.in_ok-begin_round.ensures.same (IsOfOneClosure-task c.begin_round.new.course c.run.new.course c.in_ok-ending.ensures.same)

pub returns-in-Saturated-clause-ended : goal.returns-in-Saturated-clause-ended
returns-in-Saturated-clause-ended c = (rw c.in-Saturated.is at c.in_ok-ending.ensures.ended, λ e. cc)
