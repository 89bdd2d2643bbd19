use Rattle.std.proofs.Common.{[], refl, sym, ◌∙◌}
use Rattle.std.proofs.lemmas.Result.{err_from_is_err_and}
use Rattle.ct_sexpr.specs.Text.{Located, clean, waiting, Reads, ReadsSoFar}
use Rattle.ct_sexpr.specs.View.{expression_of}
use Rattle.ct_sexpr.specs.Answer.{GivesCommand, Ends, Needs, Refuses, IsFirstCommand, IsLast}
use Rattle.ct_run.specs.Progress.{Progress, progress}
use Rattle.ct_run.proofs.TurnLemmas.{WentOn-start, goes_on, ends_with_it, ends_there, waits_there, refused_there, breaks_before, breaks}
use Rattle.ct_run.proofs.turn.answer_all.Goals as goal

pub loop-expr-init : goal.loop-expr-init
loop-expr-init g c = record { went = WentOn-start _; same = refl }

pub returns-in_err-answer-in-Ok-Command-clause-broke : goal.returns-in_err-answer-in-Ok-Command-clause-broke
returns-in_err-answer-in-Ok-Command-clause-broke g c =
    let old : Progress = progress c.args.session.now c.args.reader.now (g.K.Sink.written c.args.out.now) in
    let mid : Progress = progress c.loop-expr.session c.loop-expr.reader (g.K.Sink.written c.loop-expr.out) in
    let new : Progress = progress c.answer.new.session c.next.new.self (g.K.Sink.written c.answer.new.out) in
    let first : Located = record { command = expression_of c.in-Ok-Command.expr; line = c.in-Ok-Command.line } in
    let is : IsFirstCommand c.loop-expr.reader c.next.new.self first = rw c.in-Ok-Command.field-0-is at c.in-Ok-Command.ensures.reads in
    let gives : GivesCommand c.loop-expr.reader c.next.new.self first.command first.line = rw c.in-Ok-Command.field-0-is at c.in-Ok-Command.ensures.answers in
    let p = err_from_is_err_and c.from_residual.result c.from_residual.ensures.1 in
    rw (p.1, p.2) (breaks old mid c.loop-expr.invariant.went c.one_reading.ensures.command_stays new first is gives _ c.in_err-answer-in-Ok-Command.ensures.broke)

pub loop-expr-preserved-else-branch-8 : goal.loop-expr-preserved-else-branch-8
loop-expr-preserved-else-branch-8 g c =
    let old : Progress = progress c.args.session.now c.args.reader.now (g.K.Sink.written c.args.out.now) in
    let mid : Progress = progress c.loop-expr.session c.loop-expr.reader (g.K.Sink.written c.loop-expr.out) in
    let new : Progress = progress c.answer.new.session c.next.new.self (g.K.Sink.written c.answer.new.out) in
    let first : Located = record { command = expression_of c.in-Ok-Command.expr; line = c.in-Ok-Command.line } in
    let is : IsFirstCommand c.loop-expr.reader c.next.new.self first = rw c.in-Ok-Command.field-0-is at c.in-Ok-Command.ensures.reads in
    let gives : GivesCommand c.loop-expr.reader c.next.new.self first.command first.line = rw c.in-Ok-Command.field-0-is at c.in-Ok-Command.ensures.answers in
    let a = c.in_ok-answer-in-Ok-Command.ensures.answered in
    record {
      went = goes_on old mid c.loop-expr.invariant.went c.one_reading.ensures.command_stays new first is gives a.0 a.1 a.3 (sym a.2 ∙ c.if-branch.false);
      same = c.in_ok-answer-in-Ok-Command.ensures.cause.uncounted ∙ c.loop-expr.invariant.same;
    }

pub returns-then-branch-clause-ends : goal.returns-then-branch-clause-ends
returns-then-branch-clause-ends g c =
    let old : Progress = progress c.args.session.now c.args.reader.now (g.K.Sink.written c.args.out.now) in
    let mid : Progress = progress c.loop-expr.session c.loop-expr.reader (g.K.Sink.written c.loop-expr.out) in
    let new : Progress = progress c.answer.new.session c.next.new.self (g.K.Sink.written c.answer.new.out) in
    let first : Located = record { command = expression_of c.in-Ok-Command.expr; line = c.in-Ok-Command.line } in
    let is : IsFirstCommand c.loop-expr.reader c.next.new.self first = rw c.in-Ok-Command.field-0-is at c.in-Ok-Command.ensures.reads in
    let gives : GivesCommand c.loop-expr.reader c.next.new.self first.command first.line = rw c.in-Ok-Command.field-0-is at c.in-Ok-Command.ensures.answers in
    let a = c.in_ok-answer-in-Ok-Command.ensures.answered in
    ends_with_it old mid c.loop-expr.invariant.went c.one_reading.ensures.command_stays new first is gives a.0 a.1 a.3 (sym a.2 ∙ c.if-branch.true)

pub returns-in-Ok-End-clause-ends : goal.returns-in-Ok-End-clause-ends
returns-in-Ok-End-clause-ends g c =
    let old : Progress = progress c.args.session.now c.args.reader.now (g.K.Sink.written c.args.out.now) in
    let mid : Progress = progress c.loop-expr.session c.loop-expr.reader (g.K.Sink.written c.loop-expr.out) in
    let reads : Reads c.loop-expr.reader.line c.loop-expr.reader.bytes [] clean = rw c.in-Ok-End.field-0-is at c.in-Ok-End.ensures.reads in
    let over : Ends c.loop-expr.reader c.next.new.self = rw c.in-Ok-End.field-0-is at c.in-Ok-End.ensures.answers in
    ends_there old mid c.loop-expr.invariant.went c.next.new.self over reads

pub returns-in-Ok-Need-clause-ends : goal.returns-in-Ok-Need-clause-ends
returns-in-Ok-Need-clause-ends g c =
    let old : Progress = progress c.args.session.now c.args.reader.now (g.K.Sink.written c.args.out.now) in
    let mid : Progress = progress c.loop-expr.session c.loop-expr.reader (g.K.Sink.written c.loop-expr.out) in
    let reads : ReadsSoFar c.loop-expr.reader.line c.loop-expr.reader.bytes [] waiting = rw c.in-Ok-Need.field-0-is at c.in-Ok-Need.ensures.reads in
    let needs : Needs c.loop-expr.reader c.next.new.self = rw c.in-Ok-Need.field-0-is at c.in-Ok-Need.ensures.answers in
    waits_there old mid c.loop-expr.invariant.went c.next.new.self needs reads

pub returns-in-Err-Lexical-clause-ends : goal.returns-in-Err-Lexical-clause-ends
returns-in-Err-Lexical-clause-ends g c =
    let old : Progress = progress c.args.session.now c.args.reader.now (g.K.Sink.written c.args.out.now) in
    let mid : Progress = progress c.loop-expr.session c.loop-expr.reader (g.K.Sink.written c.loop-expr.out) in
    let last : IsLast c.loop-expr.reader c.in-Err-Lexical.code c.in-Err-Lexical.line = rw c.in-Err-Lexical.field-0-is at c.in-Err-Lexical.ensures.reads in
    let refuses : Refuses c.loop-expr.reader c.next.new.self c.in-Err-Lexical.code c.in-Err-Lexical.line = rw c.in-Err-Lexical.field-0-is at c.in-Err-Lexical.ensures.answers in
    refused_there old mid c.loop-expr.invariant.went c.next.new.self c.in-Err-Lexical.code c.in-Err-Lexical.line refuses last

pub returns-in-Err-NoMemory-clause-broke : goal.returns-in-Err-NoMemory-clause-broke
returns-in-Err-NoMemory-clause-broke g c =
    let old : Progress = progress c.args.session.now c.args.reader.now (g.K.Sink.written c.args.out.now) in
    let mid : Progress = progress c.loop-expr.session c.loop-expr.reader (g.K.Sink.written c.loop-expr.out) in
    breaks_before old mid c.loop-expr.invariant.went (progress c.loop-expr.session c.next.new.self (g.K.Sink.written c.loop-expr.out)) refl refl
