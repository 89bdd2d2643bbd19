use Rattle.std.proofs.Common.{ℕ, sym, subst, ◌∙◌}
use Rattle.ct_io.specs.Fault.{Rose}
use Rattle.ct_io.specs.declared.desk.Slot.TheVariants as slot
use Rattle.ct_run.specs.Progress.{Progress, progress}
use Rattle.ct_run.proofs.FaultLemmas.{caused_by}
use Rattle.ct_run.proofs.ReportLemmas.{Texts, stream_ended, stream_ended_some, stream_broke, stream_broke_some, input_fault, sink_fault, not_input_fault, not_sink_fault}
use Rattle.ct_run.proofs.solve.answer_opened.Goals as goal

pub returns-in-Ok-ending-clause-solved : goal.returns-in-Ok-ending-clause-solved
returns-in-Ok-ending-clause-solved g c =
    let t = c.one_text.ensures in
    let texts : Texts = record { some_text = t.some_text; some_so_far = t.some_so_far; refused_so_far = t.refused_so_far; refused_goes_on = t.refused_goes_on } in
    let now : Progress = progress c.answer_slot-ending.new.session c.answer_slot-ending.new.reader (g.K.Sink.written c.answer_slot-ending.new.out) in
    λ bytes before held. stream_ended c.args.behavior texts (g.D.Desk.left c.args.desk.now slot.Script) (g.D.Desk.left c.answer_slot-ending.new.desk slot.Script) c.in-Ok-new.session c.in-Ok-new.ensures.empty (g.K.Sink.written c.args.out.now) now c.in-Ok-ending.ending c.in-Ok-ending.ensures.streamed _ _ _ _ _ (c.conclude.ensures.kept ∙ c.finish-given.ensures.kept) c.finish-given.ensures.errors c.conclude.ensures.concluded bytes held before

pub returns-in-Ok-ending-clause-some_script : goal.returns-in-Ok-ending-clause-some_script
returns-in-Ok-ending-clause-some_script g c =
    let t = c.one_text.ensures in
    let texts : Texts = record { some_text = t.some_text; some_so_far = t.some_so_far; refused_so_far = t.refused_so_far; refused_goes_on = t.refused_goes_on } in
    let now : Progress = progress c.answer_slot-ending.new.session c.answer_slot-ending.new.reader (g.K.Sink.written c.answer_slot-ending.new.out) in
    stream_ended_some c.args.behavior texts (g.D.Desk.left c.args.desk.now slot.Script) (g.D.Desk.left c.answer_slot-ending.new.desk slot.Script) c.in-Ok-new.session c.in-Ok-new.ensures.empty (g.K.Sink.written c.args.out.now) now c.in-Ok-ending.ending c.in-Ok-ending.ensures.streamed _ _ _ _ _ (c.conclude.ensures.kept ∙ c.finish-given.ensures.kept) c.finish-given.ensures.errors c.conclude.ensures.concluded

pub returns-in-Ok-ending-clause-output : goal.returns-in-Ok-ending-clause-output
returns-in-Ok-ending-clause-output g c =
    λ is. subst (λ (n : ℕ). Rose n (g.K.Sink.faults c.conclude.new.out)) c.in-Ok-ending.ensures.sink_cause.uncounted (c.conclude.ensures.output is)

pub returns-clause-solved : goal.returns-clause-solved
returns-clause-solved g c =
    let t = c.one_text.ensures in
    let texts : Texts = record { some_text = t.some_text; some_so_far = t.some_so_far; refused_so_far = t.refused_so_far; refused_goes_on = t.refused_goes_on } in
    let now : Progress = progress c.answer_slot-ending.new.session c.answer_slot-ending.new.reader (g.K.Sink.written c.answer_slot-ending.new.out) in
    λ bytes before held. stream_broke c.args.behavior texts (g.D.Desk.left c.args.desk.now slot.Script) (g.D.Desk.left c.answer_slot-ending.new.desk slot.Script) c.in-Ok-new.session c.in-Ok-new.ensures.empty (g.K.Sink.written c.args.out.now) now _ _ (c.reported.ensures.kept ∙ c.finish-given.ensures.kept) (c.reported.ensures.errors ∙ c.finish-given.ensures.errors) c.in-Err.error _ (c.reported.ensures.status ∙ c.status_of_stream.ensures.value) c.in-Err.ensures.broke bytes held before

pub returns-clause-some_script : goal.returns-clause-some_script
returns-clause-some_script g c =
    let t = c.one_text.ensures in
    let texts : Texts = record { some_text = t.some_text; some_so_far = t.some_so_far; refused_so_far = t.refused_so_far; refused_goes_on = t.refused_goes_on } in
    let now : Progress = progress c.answer_slot-ending.new.session c.answer_slot-ending.new.reader (g.K.Sink.written c.answer_slot-ending.new.out) in
    stream_broke_some c.args.behavior texts (g.D.Desk.left c.args.desk.now slot.Script) (g.D.Desk.left c.answer_slot-ending.new.desk slot.Script) c.in-Ok-new.session c.in-Ok-new.ensures.empty (g.K.Sink.written c.args.out.now) now _ _ (c.reported.ensures.kept ∙ c.finish-given.ensures.kept) (c.reported.ensures.errors ∙ c.finish-given.ensures.errors) c.in-Err.error _ (c.reported.ensures.status ∙ c.status_of_stream.ensures.value) c.in-Err.ensures.broke

pub returns-clause-input : goal.returns-clause-input
returns-clause-input g c =
    λ is. caused_by _ c.in-Err.error _ _ c.in-Err.ensures.desk_cause (input_fault c.in-Err.error (sym (c.reported.ensures.status ∙ c.status_of_stream.ensures.value) ∙ is))

pub returns-clause-output : goal.returns-clause-output
returns-clause-output g c =
    λ is. caused_by _ c.in-Err.error _ _ c.in-Err.ensures.sink_cause (sink_fault c.in-Err.error (sym (c.reported.ensures.status ∙ c.status_of_stream.ensures.value) ∙ is))

pub returns-clause-desk_uncounted : goal.returns-clause-desk_uncounted
returns-clause-desk_uncounted g c =
    λ other. c.in-Err.ensures.desk_cause.other (not_input_fault c.in-Err.error (λ is. other (c.reported.ensures.status ∙ c.status_of_stream.ensures.value ∙ is)))

pub returns-clause-sink_uncounted : goal.returns-clause-sink_uncounted
returns-clause-sink_uncounted g c =
    λ other. c.in-Err.ensures.sink_cause.other (not_sink_fault c.in-Err.error (λ is. other (c.reported.ensures.status ∙ c.status_of_stream.ensures.value ∙ is)))
