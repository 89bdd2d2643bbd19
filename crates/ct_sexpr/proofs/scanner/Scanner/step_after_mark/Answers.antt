use Rattle.std.proofs.Common.{◌≡◌, false, eqb, refl, ap, ◌∙◌, arith}
use Rattle.std.proofs.lemmas.Bool.Decides.{nat_tests}
use Rattle.ct_sexpr.specs.Atom.{text}
use Rattle.ct_sexpr.specs.Expression.{leaf}
use Rattle.ct_sexpr.proofs.Stepped.{doubles_mark, ends_text, Steps-remaining}
use Rattle.ct_sexpr.proofs.scanner.Scanner.step_after_mark.Goals as goal

pub returns-then-byte-eq34-clause-steps : goal.returns-then-byte-eq34-clause-steps
returns-then-byte-eq34-clause-steps c =
    doubles_mark c.args.self.now _ c.args.byte refl refl c.requires.mode c.if-byte-eq34.true refl c.in_ok-push.ensures.items refl

pub returns-clause-steps : goal.returns-clause-steps
returns-clause-steps c =
    let said = c.in_ok-end_atom.ensures in
    let no_mark : eqb c.args.byte 34 ≡ false = grind (arith, nat_tests) in
    let content = ap (λ w. leaf (text w)) (c.in_ok-content.ensures.ok ∙ c.deref.ensures.value) in
    Steps-remaining c.args.self.now c.end_atom.new.self c.step_between.new.self c.args.byte c.step_between.result
    (ends_text c.args.self.now c.end_atom.new.self _ said.lists said.mode said.word said.lines said.before c.args.byte c.requires.mode no_mark content)
    c.step_between.ensures.steps
