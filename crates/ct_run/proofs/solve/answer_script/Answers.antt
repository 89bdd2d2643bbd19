use Rattle.std.proofs.Common.{◌∙◌}
use Rattle.ct_run.specs.Progress.{Progress, progress}
use Rattle.ct_command.specs.declared.option.ErrorBehavior.TheVariants.{ContinuedExecution}
use Rattle.ct_run.proofs.ReportLemmas.{Texts, script_concluded, script_broke}
use Rattle.ct_run.proofs.solve.answer_script.Goals as goal

pub returns-in-Err-clause-solved : goal.returns-in-Err-clause-solved
returns-in-Err-clause-solved g c = λ bytes whole.
    let t = c.one_text.ensures in
    let texts : Texts = record { some_text = t.some_text; some_so_far = t.some_so_far; refused_so_far = t.refused_so_far; refused_goes_on = t.refused_goes_on } in
    let now : Progress = progress c.answer_all-ending.new.session c.answer_all-ending.new.reader (g.K.Sink.written c.answer_all-ending.new.out) in
    script_broke ContinuedExecution texts c.one_reading.ensures.command_is_a_prefix bytes c.args.reader.now whole (g.K.Sink.written c.args.out.now) c.in-Ok.session c.in-Ok.ensures.empty now c.in-Err.error _ _ _ (c.reported.ensures.status ∙ c.status_of.ensures.value) (c.reported.ensures.kept ∙ c.finish-given.ensures.kept) (c.reported.ensures.errors ∙ c.finish-given.ensures.errors) c.in-Err.ensures.broke

pub returns-in-Ok-ending-clause-solved : goal.returns-in-Ok-ending-clause-solved
returns-in-Ok-ending-clause-solved g c = λ bytes whole.
    let t = c.one_text.ensures in
    let texts : Texts = record { some_text = t.some_text; some_so_far = t.some_so_far; refused_so_far = t.refused_so_far; refused_goes_on = t.refused_goes_on } in
    let now : Progress = progress c.answer_all-ending.new.session c.answer_all-ending.new.reader (g.K.Sink.written c.answer_all-ending.new.out) in
    script_concluded ContinuedExecution texts c.one_reading.ensures.command_is_a_prefix bytes c.args.reader.now whole (g.K.Sink.written c.args.out.now) c.in-Ok.session c.in-Ok.ensures.empty now c.in-Ok-ending.ending _ _ _ _ _ (c.conclude.ensures.kept ∙ c.finish-given.ensures.kept) c.finish-given.ensures.errors c.conclude.ensures.concluded c.in-Ok-ending.ensures.ends
