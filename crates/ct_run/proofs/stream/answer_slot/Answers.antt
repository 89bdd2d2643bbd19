use Rattle.std.proofs.Common.{refl, ◌∙◌}
use Rattle.std.proofs.lemmas.Result.{err_from_is_err_and}
use Rattle.ct_io.specs.declared.desk.Slot.TheVariants as slot
use Rattle.ct_input.specs.Slot.{FeedsPiece, FeedsEnd, FeedsHead}
use Rattle.ct_run.specs.declared.turn.Ending.TheVariants as ended
use Rattle.ct_run.specs.Progress.{Progress, progress, EndsWith}
use Rattle.ct_run.specs.Streaming.{BreaksOff}
use Rattle.ct_run.proofs.FaultLemmas.{if_err_each, if_ok_each}
use Rattle.ct_run.proofs.StreamLemmas.{streaming_start, early_ends, early_broke, feeding_failed, piece_came, end_came, beyond_came, last_ends, last_broke}
use Rattle.ct_run.proofs.stream.answer_slot.Goals as goal

pub loop-error-init : goal.loop-error-init
loop-error-init g c = record { so_far = streaming_start c.one_reading.ensures.command_is_a_prefix _ _ _ _ c.requires.new; desk_same = refl; sink_same = refl }

pub returns-in_err-answer_held-clause-broke : goal.returns-in_err-answer_held-clause-broke
returns-in_err-answer_held-clause-broke g c =
    let now : Progress = progress c.loop-error.session c.loop-error.reader (g.K.Sink.written c.loop-error.out) in
    let mid : Progress = progress c.answer_held.new.session c.answer_held.new.reader (g.K.Sink.written c.answer_held.new.out) in
    let p = err_from_is_err_and c.from_residual.result c.from_residual.ensures.1 in
    rw (p.1, p.2) (early_broke c.one_reading.ensures.command_is_a_prefix c.last_piece.ensures.ends_in_piece _ _ _ now _ _ c.loop-error.invariant.so_far mid _ c.in_err-answer_held.ensures.broke)

pub returns-in-Clean-clause-streamed : goal.returns-in-Clean-clause-streamed
returns-in-Clean-clause-streamed g c =
    let now : Progress = progress c.loop-error.session c.loop-error.reader (g.K.Sink.written c.loop-error.out) in
    let mid : Progress = progress c.answer_held.new.session c.answer_held.new.reader (g.K.Sink.written c.answer_held.new.out) in
    let last : EndsWith now mid ended.Clean = rw c.in-Clean.is at c.in_ok-answer_held.ensures.ends in
    early_ends c.one_reading.ensures.command_is_a_prefix c.last_piece.ensures.ends_in_piece _ _ _ now _ _ c.loop-error.invariant.so_far mid ended.Clean (λ is. cc) last

pub returns-in-Lexical-clause-streamed : goal.returns-in-Lexical-clause-streamed
returns-in-Lexical-clause-streamed g c =
    let now : Progress = progress c.loop-error.session c.loop-error.reader (g.K.Sink.written c.loop-error.out) in
    let mid : Progress = progress c.answer_held.new.session c.answer_held.new.reader (g.K.Sink.written c.answer_held.new.out) in
    let last : EndsWith now mid (ended.Lexical c.in-Lexical.error) = rw c.in-Lexical.is at c.in_ok-answer_held.ensures.ends in
    early_ends c.one_reading.ensures.command_is_a_prefix c.last_piece.ensures.ends_in_piece _ _ _ now _ _ c.loop-error.invariant.so_far mid (ended.Lexical c.in-Lexical.error) (λ is. cc) last

pub returns-in_err-count-in-Cut-clause-broke : goal.returns-in_err-count-in-Cut-clause-broke
returns-in_err-count-in-Cut-clause-broke g c =
    let now : Progress = progress c.loop-error.session c.loop-error.reader (g.K.Sink.written c.loop-error.out) in
    let mid : Progress = progress c.answer_held.new.session c.answer_held.new.reader (g.K.Sink.written c.answer_held.new.out) in
    let cut : EndsWith now mid ended.Cut = rw c.in-Cut.is at c.in_ok-answer_held.ensures.ends in
    let p = err_from_is_err_and c.from_residual-in_err-count-in-Cut.result c.from_residual-in_err-count-in-Cut.ensures.1 in
    rw (p.1, p.2) (feeding_failed c.one_reading.ensures.command_is_a_prefix c.last_piece.ensures.ends_in_piece _ _ _ now _ _ c.loop-error.invariant.so_far c.one_reading.ensures.unfinished_has_no_command mid cut _ c.feed_script.new.reader _ c.in_err-count-in-Cut.ensures.same c.in_err-count-in-Cut.ensures.stopped)

pub loop-error-preserved : goal.loop-error-preserved
loop-error-preserved g c =
    let now : Progress = progress c.loop-error.session c.loop-error.reader (g.K.Sink.written c.loop-error.out) in
    let mid : Progress = progress c.answer_held.new.session c.answer_held.new.reader (g.K.Sink.written c.answer_held.new.out) in
    let cut : EndsWith now mid ended.Cut = rw c.in-Cut.is at c.in_ok-answer_held.ensures.ends in
    let fed : FeedsPiece c.in-More.count c.answer_held.new.reader c.feed_script.new.reader (g.D.Desk.left c.loop-error.desk slot.Script) (g.D.Desk.left c.feed_script.new.desk slot.Script) = rw c.in-More.is at c.in_ok-count-in-Cut.ensures.feeds in
    record {
      so_far = piece_came c.one_reading.ensures.command_is_a_prefix c.last_piece.ensures.ends_in_piece _ _ _ now _ _ c.loop-error.invariant.so_far c.one_reading.ensures.unfinished_has_no_command mid cut c.in-More.count c.feed_script.new.reader _ fed;
      desk_same = c.in_ok-count-in-Cut.ensures.desk_cause.uncounted ∙ c.loop-error.invariant.desk_same;
      sink_same = c.in_ok-answer_held.ensures.sink_cause.uncounted ∙ c.loop-error.invariant.sink_same;
    }

pub returns-in-End-clause-streamed : goal.returns-in-End-clause-streamed
returns-in-End-clause-streamed g c =
    let now : Progress = progress c.loop-error.session c.loop-error.reader (g.K.Sink.written c.loop-error.out) in
    let mid : Progress = progress c.answer_held.new.session c.answer_held.new.reader (g.K.Sink.written c.answer_held.new.out) in
    let cut : EndsWith now mid ended.Cut = rw c.in-Cut.is at c.in_ok-answer_held.ensures.ends in
    let fed : FeedsEnd c.answer_held.new.reader c.feed_script.new.reader (g.D.Desk.left c.loop-error.desk slot.Script) (g.D.Desk.left c.feed_script.new.desk slot.Script) = rw c.in-End.is at c.in_ok-count-in-Cut.ensures.feeds in
    let last = end_came c.one_reading.ensures.command_is_a_prefix c.last_piece.ensures.ends_in_piece _ _ _ now _ _ c.loop-error.invariant.so_far c.one_reading.ensures.unfinished_has_no_command mid cut c.feed_script.new.reader _ fed in
    let there : Progress = progress c.answer_held.new.session c.feed_script.new.reader (g.K.Sink.written c.answer_held.new.out) in
    let new : Progress = progress c.answer_held-in-End.new.session c.answer_held-in-End.new.reader (g.K.Sink.written c.answer_held-in-End.new.out) in
    if_ok_each (EndsWith there new) _ c.answer_held-in-End.result c.answer_held-in-End.ensures.ends (last_ends c.one_reading.ensures.command_is_a_prefix c.last_piece.ensures.ends_in_piece _ _ _ there _ last new)

pub returns-in-End-clause-broke : goal.returns-in-End-clause-broke
returns-in-End-clause-broke g c =
    let now : Progress = progress c.loop-error.session c.loop-error.reader (g.K.Sink.written c.loop-error.out) in
    let mid : Progress = progress c.answer_held.new.session c.answer_held.new.reader (g.K.Sink.written c.answer_held.new.out) in
    let cut : EndsWith now mid ended.Cut = rw c.in-Cut.is at c.in_ok-answer_held.ensures.ends in
    let fed : FeedsEnd c.answer_held.new.reader c.feed_script.new.reader (g.D.Desk.left c.loop-error.desk slot.Script) (g.D.Desk.left c.feed_script.new.desk slot.Script) = rw c.in-End.is at c.in_ok-count-in-Cut.ensures.feeds in
    let last = end_came c.one_reading.ensures.command_is_a_prefix c.last_piece.ensures.ends_in_piece _ _ _ now _ _ c.loop-error.invariant.so_far c.one_reading.ensures.unfinished_has_no_command mid cut c.feed_script.new.reader _ fed in
    let there : Progress = progress c.answer_held.new.session c.feed_script.new.reader (g.K.Sink.written c.answer_held.new.out) in
    let new : Progress = progress c.answer_held-in-End.new.session c.answer_held-in-End.new.reader (g.K.Sink.written c.answer_held-in-End.new.out) in
    if_err_each (BreaksOff there new) _ c.answer_held-in-End.result c.answer_held-in-End.ensures.broke (last_broke c.one_reading.ensures.command_is_a_prefix c.last_piece.ensures.ends_in_piece _ _ _ there _ last new)

pub returns-in-Beyond-clause-streamed : goal.returns-in-Beyond-clause-streamed
returns-in-Beyond-clause-streamed g c =
    let now : Progress = progress c.loop-error.session c.loop-error.reader (g.K.Sink.written c.loop-error.out) in
    let mid : Progress = progress c.answer_held.new.session c.answer_held.new.reader (g.K.Sink.written c.answer_held.new.out) in
    let cut : EndsWith now mid ended.Cut = rw c.in-Cut.is at c.in_ok-answer_held.ensures.ends in
    let fed : FeedsHead c.answer_held.new.reader c.feed_script.new.reader (g.D.Desk.left c.loop-error.desk slot.Script) (g.D.Desk.left c.feed_script.new.desk slot.Script) = rw c.in-Beyond.is at c.in_ok-count-in-Cut.ensures.feeds in
    let last = beyond_came c.one_reading.ensures.command_is_a_prefix c.last_piece.ensures.ends_in_piece _ _ _ now _ _ c.loop-error.invariant.so_far c.one_reading.ensures.unfinished_has_no_command mid cut c.feed_script.new.reader _ fed in
    let there : Progress = progress c.answer_held.new.session c.feed_script.new.reader (g.K.Sink.written c.answer_held.new.out) in
    let new : Progress = progress c.answer_held-in-Beyond.new.session c.answer_held-in-Beyond.new.reader (g.K.Sink.written c.answer_held-in-Beyond.new.out) in
    if_ok_each (EndsWith there new) _ c.answer_held-in-Beyond.result c.answer_held-in-Beyond.ensures.ends (last_ends c.one_reading.ensures.command_is_a_prefix c.last_piece.ensures.ends_in_piece _ _ _ there _ last new)

pub returns-in-Beyond-clause-broke : goal.returns-in-Beyond-clause-broke
returns-in-Beyond-clause-broke g c =
    let now : Progress = progress c.loop-error.session c.loop-error.reader (g.K.Sink.written c.loop-error.out) in
    let mid : Progress = progress c.answer_held.new.session c.answer_held.new.reader (g.K.Sink.written c.answer_held.new.out) in
    let cut : EndsWith now mid ended.Cut = rw c.in-Cut.is at c.in_ok-answer_held.ensures.ends in
    let fed : FeedsHead c.answer_held.new.reader c.feed_script.new.reader (g.D.Desk.left c.loop-error.desk slot.Script) (g.D.Desk.left c.feed_script.new.desk slot.Script) = rw c.in-Beyond.is at c.in_ok-count-in-Cut.ensures.feeds in
    let last = beyond_came c.one_reading.ensures.command_is_a_prefix c.last_piece.ensures.ends_in_piece _ _ _ now _ _ c.loop-error.invariant.so_far c.one_reading.ensures.unfinished_has_no_command mid cut c.feed_script.new.reader _ fed in
    let there : Progress = progress c.answer_held.new.session c.feed_script.new.reader (g.K.Sink.written c.answer_held.new.out) in
    let new : Progress = progress c.answer_held-in-Beyond.new.session c.answer_held-in-Beyond.new.reader (g.K.Sink.written c.answer_held-in-Beyond.new.out) in
    if_err_each (BreaksOff there new) _ c.answer_held-in-Beyond.result c.answer_held-in-Beyond.ensures.broke (last_broke c.one_reading.ensures.command_is_a_prefix c.last_piece.ensures.ends_in_piece _ _ _ there _ last new)
