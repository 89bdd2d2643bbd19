use Rattle.ct_engine.proofs.AnswerLemmas.{AreDecided-from}
use Rattle.ct_engine.proofs.answer.saturated.Goals as goal

pub returns : goal.returns
returns c =
    let course = c.args.course.now in
    record { decided = AreDecided-from c.classes.ensures.classes course.search course.recorded course.derivation course.initial course.moves.items c.args.classes.now c.args.order.now c.trail-trail.ensures.sound c.requires.quiet c.requires.all c.requires.saturation c.merges-merges.ensures.long c.requires.under_way }
