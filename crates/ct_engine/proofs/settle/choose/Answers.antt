use Rattle.std.proofs.Common.{ap}
use Rattle.ct_lemmas.proofs.Options.{IfOk-map}
use Rattle.ct_sat.specs.State.{SearchState}
use Rattle.ct_engine.proofs.TurnLemmas.{IsTurn-since, IsAsked-more}
use Rattle.ct_engine.proofs.settle.choose.Goals as goal

pub returns-in-All-clause-turn : goal.returns-in-All-clause-turn
returns-in-All-clause-turn c =
    let decided = rw c.in-All.is at c.in_ok-decide.ensures.decided in
    IfOk-map c.finish.result _ _
    (λ turn h. IsTurn-since c.args.course.now c.decide.new.course c.finish.new.course c.finish.new.theory turn (ap (λ (s : SearchState). s.count) decided.3) (ap (λ (s : SearchState). s.decided) decided.3) h)
    c.finish.ensures.turn

pub returns-in-Took-clause-asked : goal.returns-in-Took-clause-asked
returns-in-Took-clause-asked c = IsAsked-more c.args.course.now c.decide.new.course c.args.theory.now c.args.asked.now c.in_ok-decide.ensures.trail c.requires.asked

pub returns-in-Spent-clause-asked : goal.returns-in-Spent-clause-asked
returns-in-Spent-clause-asked c = IsAsked-more c.args.course.now c.decide.new.course c.args.theory.now c.args.asked.now c.in_ok-decide.ensures.trail c.requires.asked

pub finish-requires-clause-asked : goal.finish-requires-clause-asked
finish-requires-clause-asked c = IsAsked-more c.args.course.now c.decide.new.course c.args.theory.now c.args.asked.now c.in_ok-decide.ensures.trail c.requires.asked
