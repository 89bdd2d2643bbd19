use Rattle.ct_theory.proofs.AnswerLemmas.{AreAllStripped-continues}
use Rattle.ct_theory.proofs.refuting.look.Goals as goal

pub clash-requires-clause-stripped : goal.clash-requires-clause-stripped
clash-requires-clause-stripped c = AreAllStripped-continues c.args.classes.now c.close_or_clash.new.self c.in_ok-a.ensures.continues c.requires.stripped

pub look_on-requires-clause-stripped : goal.look_on-requires-clause-stripped
look_on-requires-clause-stripped c = AreAllStripped-continues c.args.classes.now c.close_or_clash.new.self c.in_ok-a.ensures.continues c.requires.stripped

pub clash-requires-clause-forest : goal.clash-requires-clause-forest
clash-requires-clause-forest c =
    let later = c.in_ok-a.ensures.continues in
    c.kept_forests.ensures.more c.args.classes.now c.close_or_clash.new.self later.more later.terms later.merges c.args.forest.now c.requires.forest

pub look_on-requires-clause-forest : goal.look_on-requires-clause-forest
look_on-requires-clause-forest c =
    let later = c.in_ok-a.ensures.continues in
    c.kept_forests.ensures.more c.args.classes.now c.close_or_clash.new.self later.more later.terms later.merges c.args.forest.now c.requires.forest
