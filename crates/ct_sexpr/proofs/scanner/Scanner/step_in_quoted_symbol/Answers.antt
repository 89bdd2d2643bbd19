use Rattle.std.proofs.Common.{List, ℕ, ◌∷◌, sym, ap, ◌∙◌, subst}
use Rattle.ct_sexpr.specs.Scanning.{Reached, Refutes, ReadsByte}
use Rattle.ct_sexpr.specs.Atom.{quoted}
use Rattle.ct_sexpr.specs.Expression.{leaf}
use Rattle.ct_sexpr.proofs.Stepped.{refutes_backslash, ends_quoted}
use Rattle.ct_sexpr.proofs.scanner.Scanner.step_in_quoted_symbol.Goals as goal

pub returns-in-92-clause-steps : goal.returns-in-92-clause-steps
returns-in-92-clause-steps c =
    subst (λ b. (whole left : List ℕ) → Reached c.args.self.now whole (b ∷ left) → Refutes c.args.self.now 1 whole (b ∷ left)) (sym c.in-92.is) (refutes_backslash c.args.self.now c.requires.mode)

pub returns-in_ok-end_atom-in-124-clause-steps : goal.returns-in_ok-end_atom-in-124-clause-steps
returns-in_ok-end_atom-in-124-clause-steps c =
    let said = c.in_ok-end_atom-in-124.ensures in
    let name = ap (λ w. leaf (quoted w)) (c.in_ok-name-in-124.ensures.ok ∙ c.deref.ensures.value) in
    subst (ReadsByte c.args.self.now c.end_atom.new.self) (sym c.in-124.is)
    (ends_quoted c.args.self.now c.end_atom.new.self _ said.lists said.mode said.word said.lines said.before c.requires.mode name)
