use Rattle.ct_engine.proofs.TurnLemmas.{IsAsked-cut}
use Rattle.ct_engine.proofs.settle.learn_from.Goals as goal

pub returns-clause-asked : goal.returns-clause-asked
returns-clause-asked c =
    λ theory has. IsAsked-cut c.args.course.now c.learn.new.course theory c.args.asked.now c.cut_to.new.self c.trail.result.now c.trail.ensures.value c.in_ok-turn.ensures.trail c.cut_to.ensures.fewer c.cut_to.ensures.cut has
