use Rattle.std.proofs.Common.{[], refl, ◌∙◌}
use Rattle.ct_io.specs.declared.desk.Slot.TheVariants as slot
use Rattle.ct_run.proofs.ReportLemmas.{unopened}
use Rattle.ct_run.proofs.solve.solve.Goals as goal

pub returns-in-Err-clause-solved : goal.returns-in-Err-clause-solved
returns-in-Err-clause-solved g c = λ bytes held. unopened c.args.behavior c.in-Err.error _ _ _ bytes (g.D.Desk.left c.args.desk.now slot.Script) (g.D.Desk.left c.open_slot.new.desk slot.Script) (g.K.Sink.written c.args.out.now) (g.K.Sink.written c.args.out.now) (c.unanswered.ensures.status ∙ c.status_of_input.ensures.value) c.unanswered.ensures.kept c.unanswered.ensures.errors c.in-Err.ensures.refused refl

pub returns-in-Err-clause-some_script : goal.returns-in-Err-clause-some_script
returns-in-Err-clause-some_script g c =
    let nothing = unopened c.args.behavior c.in-Err.error _ _ _ [] (g.D.Desk.left c.args.desk.now slot.Script) (g.D.Desk.left c.open_slot.new.desk slot.Script) (g.K.Sink.written c.args.out.now) (g.K.Sink.written c.args.out.now) (c.unanswered.ensures.status ∙ c.status_of_input.ensures.value) c.unanswered.ensures.kept c.unanswered.ensures.errors c.in-Err.ensures.refused refl in
    ([], nothing.0, nothing.2)
