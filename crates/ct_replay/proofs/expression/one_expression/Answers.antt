use Rattle.std.proofs.Common.{[], refl}
use Rattle.ct_sexpr.specs.Text.{Located, clean, lexical, Reads}
use Rattle.ct_sexpr.specs.View.{expression_of}
use Rattle.ct_sexpr.specs.Answer.{IsFirstCommand, IsLast}
use Rattle.ct_replay.proofs.FirstLemmas.{with_first}
use Rattle.ct_replay.proofs.expression.one_expression.Goals as goal

pub returns-in-Ok-Command : goal.returns-in-Ok-Command
returns-in-Ok-Command c =
    let first : Located = record { command = expression_of c.in-Ok-Command.expr; line = c.in-Ok-Command.field-0-1 } in
    let is : IsFirstCommand c.args.reader.now c.next.new.self first = rw c.in-Ok-Command.field-0-is at c.in-Ok-Command.ensures.reads in
    record { read = with_first c.args.reader.now c.next.new.self first is c.alone.result c.alone.ensures.read }

pub returns-in-Ok-End : goal.returns-in-Ok-End
returns-in-Ok-End c =
    let reads : Reads c.args.reader.now.line c.args.reader.now.bytes [] clean = rw c.in-Ok-End.field-0-is at c.in-Ok-End.ensures.reads in
    record { read = ([], clean, reads, refl) }

pub returns-in-Err-Lexical : goal.returns-in-Err-Lexical
returns-in-Err-Lexical c =
    let last : IsLast c.args.reader.now c.in-Err-Lexical.field-0-0 c.in-Err-Lexical.field-0-1 = rw c.in-Err-Lexical.field-0-is at c.in-Err-Lexical.ensures.reads in
    record { read = ([], lexical c.in-Err-Lexical.field-0-0 c.in-Err-Lexical.field-0-1, last.ended, refl) }
