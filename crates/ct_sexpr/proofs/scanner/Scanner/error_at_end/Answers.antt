use Rattle.std.proofs.Common.{◌<◌, sym, ◌∙◌, arith}
use Rattle.ct_sexpr.proofs.Ended.{ends_as_whitespace, ends_open, ends_in_word}
use Rattle.ct_sexpr.proofs.scanner.Scanner.error_at_end.Goals as goal

pub returns-in-Some : goal.returns-in-Some
returns-in-Some c = let w = c.in-Some.ensures.found in record { ends = ends_in_word c.args.self.now c.in-Some.code w.0 w.1 }

pub returns-in-None : goal.returns-in-None
returns-in-None c = record { ends = ends_as_whitespace c.args.self.now (sym c.depth.ensures.depth ∙ c.if-depth-eq0.true) }

pub returns-in-None-2 : goal.returns-in-None-2
returns-in-None-2 c =
    let deep : 0 < c.args.self.now.lists.depth = omega arith in
    record { ends = ends_open c.args.self.now deep c.in-None-2.ensures.none }
