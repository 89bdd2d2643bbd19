use Rattle.std.proofs.Common.{◌∙◌, [], None, Some, refl}
use Rattle.ct_sexpr.specs.Text.{Located, clean, lexical, Reads}
use Rattle.ct_sexpr.specs.View.{expression_of}
use Rattle.ct_sexpr.specs.Answer.{GivesCommand, IsFirstCommand, IsLast}
use Rattle.ct_replay.proofs.ReplayLemmas.{goes_on, ends_with}
use Rattle.ct_replay.proofs.replay.find_check.Goals as goal

pub returns-in-Found : goal.returns-in-Found
returns-in-Found c =
    let first : Located = record { command = expression_of c.in-Ok-Command.expr; line = c.in-Ok-Command.line } in
    let is : IsFirstCommand c.loop-expr.reader c.next.new.self first = rw c.in-Ok-Command.field-0-is at c.in-Ok-Command.ensures.reads in
    let turned = rw c.in-Found.is at c.in_ok-turn-in-Ok-Command.ensures.turned in
    record { found = ends_with c.one_text.ensures.some_text c.args.reader.now c.loop-expr.reader c.next.new.self c.args.session.now c.loop-expr.session c.loop-expr.standing c.args.wanted first (Some c.replay.new.session.state) c.loop-expr.invariant.went is (λ cs. turned cs (Some c.replay.new.session.state) refl) }

pub returns-in-Over : goal.returns-in-Over
returns-in-Over c =
    let first : Located = record { command = expression_of c.in-Ok-Command.expr; line = c.in-Ok-Command.line } in
    let is : IsFirstCommand c.loop-expr.reader c.next.new.self first = rw c.in-Ok-Command.field-0-is at c.in-Ok-Command.ensures.reads in
    let turned = rw c.in-Over.is at c.in_ok-turn-in-Ok-Command.ensures.turned in
    record { found = ends_with c.one_text.ensures.some_text c.args.reader.now c.loop-expr.reader c.next.new.self c.args.session.now c.loop-expr.session c.loop-expr.standing c.args.wanted first None c.loop-expr.invariant.went is (λ cs. turned cs None refl) }

pub loop-expr-preserved-in-On-8 : goal.loop-expr-preserved-in-On-8
loop-expr-preserved-in-On-8 c =
    let first : Located = record { command = expression_of c.in-Ok-Command.expr; line = c.in-Ok-Command.line } in
    let is : IsFirstCommand c.loop-expr.reader c.next.new.self first = rw c.in-Ok-Command.field-0-is at c.in-Ok-Command.ensures.reads in
    let gives : GivesCommand c.loop-expr.reader c.next.new.self first.command first.line = rw c.in-Ok-Command.field-0-is at c.in-Ok-Command.ensures.answers in
    let turned = rw c.in-On.is at c.in_ok-turn-in-Ok-Command.ensures.turned in
    record {
      went = goes_on c.args.reader.now c.loop-expr.reader c.next.new.self c.args.session.now c.loop-expr.session c.replay.new.session c.loop-expr.standing c.in-On.now c.args.wanted first c.loop-expr.invariant.went is turned;
      ended = gives.ended ∙ c.loop-expr.invariant.ended;
      unanswered = c.replay.ensures.unanswered;
    }

pub returns-in-Ok-End : goal.returns-in-Ok-End
returns-in-Ok-End c =
    let reads : Reads c.loop-expr.reader.line c.loop-expr.reader.bytes [] clean = rw c.in-Ok-End.field-0-is at c.in-Ok-End.ensures.reads in
    record { found = c.loop-expr.invariant.went [] clean None reads refl }

pub returns-in-Err-Lexical : goal.returns-in-Err-Lexical
returns-in-Err-Lexical c =
    let last : IsLast c.loop-expr.reader c.in-Err-Lexical.field-0-0 c.in-Err-Lexical.field-0-1 = rw c.in-Err-Lexical.field-0-is at c.in-Err-Lexical.ensures.reads in
    record { found = c.loop-expr.invariant.went [] (lexical c.in-Err-Lexical.field-0-0 c.in-Err-Lexical.field-0-1) None last.ended refl }
