use Rattle.std.proofs.Common.{[], ◌∷◌, Some, refl, ap}
use Rattle.ct_sexpr.specs.Expression.{Expression}
use Rattle.ct_sexpr.specs.Text.{Located, clean, lexical, Reads}
use Rattle.ct_sexpr.specs.View.{expression_of}
use Rattle.ct_sexpr.specs.Answer.{IsFirstCommand, IsLast}
use Rattle.ct_replay.proofs.ReplayLemmas.{first_read}
use Rattle.ct_replay.proofs.expression.alone.Goals as goal

pub returns-in-Ok-Command : goal.returns-in-Ok-Command
returns-in-Ok-Command c = record {
  read = λ first e.
      let second : Located = record { command = expression_of c.in-Ok-Command.field-0-0; line = c.in-Ok-Command.field-0-1 } in
      let is : IsFirstCommand c.args.reader.now c.next.new.self second = rw c.in-Ok-Command.field-0-is at c.in-Ok-Command.ensures.reads in
      let rest = c.one_text.ensures.some_text c.next.new.self.line c.next.new.self.bytes in
      (second ∷ rest.0, rest.1, first_read c.args.reader.now c.next.new.self second is rest.0 rest.1 rest.2, refl);
}

pub returns-in-Ok-End : goal.returns-in-Ok-End
returns-in-Ok-End c = record {
  read = λ first e.
      let reads : Reads c.args.reader.now.line c.args.reader.now.bytes [] clean = rw c.in-Ok-End.field-0-is at c.in-Ok-End.ensures.reads in
      ([], clean, reads, ap (λ (x : Expression). Some x) e);
}

pub returns-in-Err-Lexical : goal.returns-in-Err-Lexical
returns-in-Err-Lexical c = record {
  read = λ first e.
      let last : IsLast c.args.reader.now c.in-Err-Lexical.field-0-0 c.in-Err-Lexical.field-0-1 = rw c.in-Err-Lexical.field-0-is at c.in-Err-Lexical.ensures.reads in
      ([], lexical c.in-Err-Lexical.field-0-0 c.in-Err-Lexical.field-0-1, last.ended, refl);
}
