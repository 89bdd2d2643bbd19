use Rattle.std.proofs.Common.{◌<◌, refl, sym, ◌∙◌, arith}
use Rattle.ct_sexpr.proofs.Stepped.{closes, refutes_closing}
use Rattle.ct_sexpr.proofs.scanner.Scanner.close_list.Goals as goal

pub returns-in-0-clause-steps : goal.returns-in-0-clause-steps
returns-in-0-clause-steps c = refutes_closing c.args.self.now c.requires.mode (sym c.depth.ensures.depth ∙ c.in-0.is)

pub returns-in_ok-close-in_default-clause-steps : goal.returns-in_ok-close-in_default-clause-steps
returns-in_ok-close-in_default-clause-steps c =
    let inner : 1 < c.args.self.now.lists.depth = omega arith in
    closes c.args.self.now _ c.requires.mode inner c.in_ok-close-in_default.ensures.ok refl refl refl refl
