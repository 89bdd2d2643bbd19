use Rattle.ct_lemmas.proofs.Options.{IfOk-map, OnOk-map}
use Rattle.ct_engine.proofs.TurnLemmas.{IsTurn-since, IsAsked-more}
use Rattle.ct_engine.proofs.settle.take_turn.Goals as goal

pub returns-in-Some-clause-turn : goal.returns-in-Some-clause-turn
returns-in-Some-clause-turn c =
    IfOk-map c.learn_from.result _ _ (λ turn h. IsTurn-since c.args.course.now c.propagate.new.course c.learn_from.new.course c.args.theory.now turn c.propagate.ensures.counted c.propagate.ensures.decided (h c.args.theory.now)) c.learn_from.ensures.learned

pub returns-in-Some-2-clause-turn : goal.returns-in-Some-2-clause-turn
returns-in-Some-2-clause-turn c =
    IfOk-map c.teach.result _ _ (λ turn h. IsTurn-since c.args.course.now c.propagate.new.course c.teach.new.course c.refute.new.theory turn c.propagate.ensures.counted c.propagate.ensures.decided (h c.refute.new.theory)) c.teach.ensures.learned

pub returns-in-Some-clause-asked : goal.returns-in-Some-clause-asked
returns-in-Some-clause-asked c =
    let theory = c.args.theory.now in
    OnOk-map c.learn_from.result _ _ (λ keeps. keeps theory (IsAsked-more c.args.course.now c.propagate.new.course theory c.args.asked.now c.propagate.ensures.trail c.requires.asked)) c.learn_from.ensures.asked

pub refute-requires-clause-asked : goal.refute-requires-clause-asked
refute-requires-clause-asked c = IsAsked-more c.args.course.now c.propagate.new.course c.args.theory.now c.args.asked.now c.propagate.ensures.trail c.requires.asked

pub returns-in-Some-2-clause-asked : goal.returns-in-Some-2-clause-asked
returns-in-Some-2-clause-asked c =
    OnOk-map c.teach.result _ _ (λ keeps. keeps c.refute.new.theory c.in_ok-conflict.ensures.asked) c.teach.ensures.asked
