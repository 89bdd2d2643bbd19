use Rattle.std.proofs.Common.{refl, sym, ◌∙◌}
use Rattle.ct_sexpr.specs.AtomKind.{atom_as}
use Rattle.ct_sexpr.proofs.Stepped.{grows_word, ends_word, refutes_word, Steps-remaining}
use Rattle.ct_sexpr.proofs.scanner.Scanner.step_in_word.Goals as goal

pub returns-then-is_word_byte-clause-steps : goal.returns-then-is_word_byte-clause-steps
returns-then-is_word_byte-clause-steps c =
    grows_word c.args.self.now _ c.args.byte refl refl c.requires.mode (sym c.is_word_byte.ensures.word ∙ c.if-is_word_byte.true) refl c.in_ok-push.ensures.items refl

pub returns-in_ok-end_atom-in-Ok-clause-steps : goal.returns-in_ok-end_atom-in-Ok-clause-steps
returns-in_ok-end_atom-in-Ok-clause-steps c =
    let word = c.args.self.now.word.items in
    let said = c.in_ok-end_atom-in-Ok.ensures in
    let over = sym c.is_word_byte.ensures.word ∙ c.if-is_word_byte.false in
    let is = rw c.deref.ensures.value at c.in-Ok.ensures.ok in
    let item = rw c.deref-in-Ok.ensures.value at c.in_ok-item-in-Ok.ensures.ok in
    Steps-remaining c.args.self.now c.end_atom.new.self c.step_between.new.self c.args.byte c.step_between.result
    (ends_word c.args.self.now c.end_atom.new.self _ said.lists said.mode said.word said.lines said.before c.args.byte (atom_as c.in-Ok.kind word) c.requires.mode over is item)
    c.step_between.ensures.steps

pub returns-in-Err-clause-steps : goal.returns-in-Err-clause-steps
returns-in-Err-clause-steps c =
    refutes_word c.args.self.now c.in-Err.code c.args.byte c.requires.mode (sym c.is_word_byte.ensures.word ∙ c.if-is_word_byte.false)
    (rw c.deref.ensures.value at c.in-Err.ensures.err)
