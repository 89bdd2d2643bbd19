use Rattle.std.proofs.Common.{◌≡◌, ◌-◌, drop, ap, ◌∙◌}
use Rattle.ct_sexpr.specs.View.{expression_of}
use Rattle.ct_sexpr.specs.Answer.{GivesCommand}
use Rattle.ct_input.specs.Source.{GivesText, IsPlaced}
use Rattle.ct_input.proofs.SourceLemmas.{source, few_before, left_of, text_kept}
use Rattle.ct_input.proofs.source.SourceReader.next.Goals as goal
use Rattle.ct_input.proofs.source.SourceReader.next.Goals.{After-kept_bytes, After-keep_command}

-- the reader gave the command
given : (c : After-kept_bytes) → GivesCommand c.self.inside.reader c.next.new.self (expression_of c.in-Command.expr) c.in-Command.line
given c = (rw c.in-Command.is at c.in_ok-expr.ensures).answers

pub keep_command-requires-clause-after : goal.keep_command-requires-clause-after
keep_command-requires-clause-after c =
    let after = (goal.at.keep_command-requires-clause-after c).After-kept_bytes in
    rw c.self.invariant.0 (few_before c.self.inside.reader c.next.new.self _ _ c.kept_bytes-before.result c.kept_bytes.result (given after) c.kept_bytes-before.ensures.value c.kept_bytes.ensures.value)

-- the bytes that are left are those of the reader
left : (c : After-keep_command) → GivesCommand c.self.inside.reader c.next.new.self (expression_of c.in-Command.expr) c.in-Command.line → c.keep_command.new.bytes.rest ≡ c.next.new.self.bytes
left c g =
    c.keep_command.ensures.rest
    ∙ ap (drop (c.kept_bytes-before.result - c.kept_bytes.result)) c.self.invariant.0
    ∙ left_of c.self.inside.reader c.next.new.self _ _ c.kept_bytes-before.result c.kept_bytes.result g c.kept_bytes-before.ensures.value c.kept_bytes.ensures.value

-- the place and the text of the command
kept : (c : After-keep_command) → GivesCommand c.self.inside.reader c.next.new.self (expression_of c.in-Command.expr) c.in-Command.line →
    IsPlaced (source c.next.new.self c.keep_command.new.bytes.command c.in-Command.line c.keep_command.new.column)
    × GivesText (source c.self.inside.reader c.self.inside.bytes.command c.self.inside.line c.self.inside.column) (source c.next.new.self c.keep_command.new.bytes.command c.in-Command.line c.keep_command.new.column) (expression_of c.in-Command.expr) c.in-Command.line
kept c g =
    let same = c.self.invariant.0 in
    text_kept (source c.self.inside.reader c.self.inside.bytes.command c.self.inside.line c.self.inside.column) c.next.new.self (expression_of c.in-Command.expr) c.in-Command.line _ _ _ c.self.invariant.1 g (left c g)
    (rw same at c.keep_command.ensures.command) (rw same at c.keep_command.ensures.column)

pub invariant_of-self-in-Command : goal.invariant_of-self-in-Command
invariant_of-self-in-Command c =
    let at = goal.at.invariant_of-self-in-Command c in
    let g = given at.After-kept_bytes in
    (left at.After-keep_command g, (kept at.After-keep_command g).0)

pub returns-in-Command-clause-text : goal.returns-in-Command-clause-text
returns-in-Command-clause-text c =
    let at = goal.at.returns-in-Command-clause-text c in
    rw (← c.self.view_is) (kept at.After-keep_command (given at.After-kept_bytes)).1
