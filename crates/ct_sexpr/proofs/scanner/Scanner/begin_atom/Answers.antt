use Rattle.std.proofs.Common.{sym, ◌∙◌}
use Rattle.ct_sexpr.proofs.Stepped.{refutes_no_token, refutes_outside}
use Rattle.ct_sexpr.proofs.scanner.Scanner.begin_atom.Goals as goal

pub returns-then-not-begins_atom-clause-steps : goal.returns-then-not-begins_atom-clause-steps
returns-then-not-begins_atom-clause-steps c =
    refutes_no_token c.args.self.now c.args.byte c.requires.mode c.requires.no_whitespace c.requires.no_comment c.requires.no_opening c.requires.no_closing
    (sym c.begins_atom.ensures.begins ∙ c.if-not-begins_atom.true)

pub returns-then-depth-eq0-clause-steps : goal.returns-then-depth-eq0-clause-steps
returns-then-depth-eq0-clause-steps c =
    refutes_outside c.args.self.now c.args.byte c.requires.mode (sym c.begins_atom.ensures.begins ∙ c.if-not-begins_atom.false)
    (sym c.depth.ensures.depth ∙ c.if-depth-eq0.true)
