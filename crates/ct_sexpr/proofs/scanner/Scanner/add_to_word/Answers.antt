use Rattle.std.proofs.Common.{ap, ◌∙◌}
use Rattle.ct_sexpr.proofs.Stepped.{grows_quoted, grows_text}
use Rattle.ct_sexpr.proofs.scanner.Scanner.add_to_word.Goals as goal

pub returns-clause-quoted : goal.returns-clause-quoted
returns-clause-quoted c = λ mode between.
    let counted = c.count.ensures.counted in
    grows_quoted c.args.self.now c.count.new.self c.args.byte (ap (λ s. s.lists) counted) (ap (λ s. s.before) counted) mode between
    (ap (λ s. s.mode) counted) (ap (λ s. s.word.items) counted ∙ c.in_ok-push.ensures.items) (ap (λ s. s.line_feeds) counted)

pub returns-clause-text : goal.returns-clause-text
returns-clause-text c = λ mode no_mark.
    let counted = c.count.ensures.counted in
    grows_text c.args.self.now c.count.new.self c.args.byte (ap (λ s. s.lists) counted) (ap (λ s. s.before) counted) mode no_mark
    (ap (λ s. s.mode) counted) (ap (λ s. s.word.items) counted ∙ c.in_ok-push.ensures.items) (ap (λ s. s.line_feeds) counted)
