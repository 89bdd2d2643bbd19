use Rattle.std.proofs.Common.{arith}
use Rattle.ct_sexpr.proofs.Given.{line_fits, needs, ends_here, ends_wrong}
use Rattle.ct_sexpr.proofs.reader.next_at_end.Goals as goal

pub returns-then-not-ended : goal.returns-then-not-ended
returns-then-not-ended c = record { answers = λ whole fed r. needs c.args.scanner.now whole c.args.lines fed c.args.ended r c.if-not-ended.true }

pub lexical-requires : goal.lexical-requires
lexical-requires c =
    let read = c.requires.read in
    let wrong = c.in-Some.ensures.ends read.0 read.1 in
    record { few = omega (arith, read.2, line_fits c.args.scanner.now read.0 c.in-Some.code wrong.suffix wrong.error wrong.line) }

pub returns-in-Some : goal.returns-in-Some
returns-in-Some c = record {
  answers = λ whole fed r.
      rw (c.lexical.ensures.error, c.lines_read.ensures.lines)
      (ends_wrong c.args.scanner.now whole c.args.lines fed c.args.ended c.in-Some.code c.if-not-ended.false (c.in-Some.ensures.ends whole r));
}

pub returns-in-None : goal.returns-in-None
returns-in-None c = record { answers = λ whole fed r. ends_here c.args.scanner.now whole c.args.lines fed c.args.ended r c.if-not-ended.false c.in-None.ensures.ends }
