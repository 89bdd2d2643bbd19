use Rattle.std.proofs.Common.{◌≡◌, ◌+◌, ◌-◌, ◌<◌, ◌^◌, [], ◌++◌, ℕ, length, drop, take, Ok, Err, ap, ◌∙◌, arith, length-drop}
use Rattle.std.proofs.lemmas.List.{take_rest}
use Rattle.ct_sexpr.specs.View.{expression_of}
use Rattle.ct_sexpr.specs.Buffered.{IsBuffered}
use Rattle.ct_sexpr.specs.Scanning.{Reached, Refutes, Completes, BeginsAfter}
use Rattle.ct_sexpr.specs.declared.sexpr.Sexpr.{Sexpr}
use Rattle.ct_sexpr.specs.declared.scanner.ScanStep.TheVariants.{Going, Command, Wrong}
use Rattle.ct_sexpr.specs.declared.error.ReadError.{ReadError}
use Rattle.ct_sexpr.specs.declared.error.ReadError.TheVariants.{NoMemory}
use Rattle.ct_sexpr.proofs.Buffers.{buffered-give, buffered-settled, tight-failed, tight-wrong, fresh_again, reached_now, scanned_failed, scanned_all, scanned_wrong, scanned_command}
use Rattle.ct_sexpr.proofs.Decided.{definite_is_error}
use Rattle.ct_sexpr.proofs.Given.{unread, line_fits, gives, refuses}
use Rattle.ct_sexpr.proofs.Items.{given_nests, answer_nests}
use Rattle.ct_sexpr.proofs.WholeTexts.{given_is_first, refused_is_last, reads_on}
use Rattle.ct_sexpr.proofs.reader.Reader.next.Goals as goal
use Rattle.ct_sexpr.proofs.reader.Reader.next.Goals.{After-scan_bytes-count}

pub scan_bytes-count-requires : goal.scan_bytes-count-requires
scan_bytes-count-requires c =
    let i = c.self.inside in
    let xs = c.deref.result.now in
    let few = (reached_now i.buffer.items i.start i.scanned i.scanner i.lines i.fed c.self.invariant.0).lines.few in
    let size : length (take (length xs - i.scanned) (drop i.scanned xs)) ≡ length (drop i.scanned i.buffer.items) = ap length (take_rest xs i.scanned ∙ ap (drop i.scanned) c.deref.ensures.value) in
    record { few = omega (arith, length-drop i.start i.buffer.items, ap length c.deref.ensures.value) }

is_unread : (c : After-scan_bytes-count) →
    take (length c.deref.result.now - c.self.inside.scanned) (drop c.self.inside.scanned c.deref.result.now) ≡ drop c.self.inside.scanned c.self.inside.buffer.items
is_unread c = take_rest c.deref.result.now c.self.inside.scanned ∙ ap (drop c.self.inside.scanned) c.deref.ensures.value

failed : (c : After-scan_bytes-count) (e : ReadError) → c.scan_bytes-count.result.outcome ≡ Err e →
    (e ≡ NoMemory) × IsBuffered c.self.inside.buffer.items c.self.inside.start (c.self.inside.scanned + c.scan_bytes-count.result.count) c.scan_bytes-count.new.scanner c.self.inside.lines c.self.inside.fed
failed c = scanned_failed _ _ _ _ _ _ _ _ _ _ c.self.invariant.0 (is_unread c) c.scan_bytes-count.ensures.within c.scan_bytes-count.ensures.scans

all : (c : After-scan_bytes-count) → c.scan_bytes-count.result.outcome ≡ Ok Going →
    IsBuffered c.self.inside.buffer.items c.self.inside.start (c.self.inside.scanned + c.scan_bytes-count.result.count) c.scan_bytes-count.new.scanner c.self.inside.lines c.self.inside.fed
    × Reached c.scan_bytes-count.new.scanner (drop c.self.inside.start c.self.inside.buffer.items) []
all c = scanned_all _ _ _ _ _ _ _ _ _ _ c.self.invariant.0 (is_unread c) c.scan_bytes-count.ensures.within c.scan_bytes-count.ensures.scans

wrong : (c : After-scan_bytes-count) (code : ℕ) → c.scan_bytes-count.result.outcome ≡ Ok (Wrong code) →
    IsBuffered c.self.inside.buffer.items c.self.inside.start (c.self.inside.scanned + c.scan_bytes-count.result.count) c.scan_bytes-count.new.scanner c.self.inside.lines c.self.inside.fed
    × Refutes c.scan_bytes-count.new.scanner code (drop c.self.inside.start c.self.inside.buffer.items)
    (drop c.scan_bytes-count.result.count (take (length c.deref.result.now - c.self.inside.scanned) (drop c.self.inside.scanned c.deref.result.now)) ++ [])
wrong c = scanned_wrong _ _ _ _ _ _ _ _ _ _ c.self.invariant.0 (is_unread c) c.scan_bytes-count.ensures.within c.scan_bytes-count.ensures.scans

command : (c : After-scan_bytes-count) (e : Sexpr) → c.scan_bytes-count.result.outcome ≡ Ok (Command e) →
    Completes c.scan_bytes-count.new.scanner (expression_of e) (drop c.self.inside.start c.self.inside.buffer.items)
    (drop (c.self.inside.scanned + c.scan_bytes-count.result.count) c.self.inside.buffer.items)
command c = scanned_command _ _ _ _ _ _ _ _ _ _ c.self.invariant.0 (is_unread c) c.scan_bytes-count.ensures.within c.scan_bytes-count.ensures.scans

-- a line of the unread bytes fits
fits : (c : After-scan_bytes-count) (n : ℕ) → BeginsAfter n (drop c.self.inside.start c.self.inside.buffer.items) → c.self.inside.lines + n + 1 < 2 ^ 64
fits c n b = omega (arith, b.few, c.self.invariant.0.few)

pub invariant_of-self : goal.invariant_of-self
invariant_of-self c =
    let after = (goal.at.invariant_of-self c).After-scan_bytes-count in (
      (failed after c.in_err-outcome.field-0.0 c.in_err-outcome.was).1,
      tight-failed _ c.self.inside.start c.self.inside.scanned c.scan_bytes-count.result.count _ c.scan_bytes-count.result.outcome (is_unread after) c.self.invariant.0.scanned_le c.scan_bytes-count.ensures.takes c.in_err-outcome.field-0.0 c.in_err-outcome.was,
    )

pub next_at_end-requires : goal.next_at_end-requires
next_at_end-requires c =
    let after = (goal.at.next_at_end-requires c).After-scan_bytes-count in
    let r = (all after (c.in_ok-outcome.was ∙ ap Ok c.in-Going.is)).1 in
    record { read = (drop c.self.inside.start c.self.inside.buffer.items, r, omega (arith, c.self.invariant.0.few)) }

pub invariant_of-self-in-Going : goal.invariant_of-self-in-Going
invariant_of-self-in-Going c =
    let i = c.self.inside in
    let b = (all (goal.at.invariant_of-self-in-Going c).After-scan_bytes-count (c.in_ok-outcome.was ∙ ap Ok c.in-Going.is)).0 in
    let d = c.drop_if_read.ensures in
    (buffered-settled i.buffer.items c.drop_if_read.new.buffer.items i.start (i.scanned + c.scan_bytes-count.result.count) c.drop_if_read.new.start c.drop_if_read.new.scanned _ _ _ b d.kept d.unread d.order d.within, d.tight)

-- the line of a definite error fits
wrong_fits : (c : After-scan_bytes-count) (code : ℕ) → c.scan_bytes-count.result.outcome ≡ Ok (Wrong code) → c.self.inside.lines + c.scan_bytes-count.new.scanner.line_feeds + 1 < 2 ^ 64
wrong_fits c code o =
    let r = (wrong c code o).1 in
    omega (arith, c.self.invariant.0.few, line_fits c.scan_bytes-count.new.scanner _ code r.suffix (definite_is_error _ code r.suffix r.error) r.line)

pub overflow_add-self-inside : goal.overflow_add-self-inside
overflow_add-self-inside c =
    omega (arith, wrong_fits (goal.at.overflow_add-self-inside c).After-scan_bytes-count c.in-Wrong.code (c.in_ok-outcome.was ∙ ap Ok c.in-Wrong.is), c.lines_read.ensures.lines)

pub lexical-requires : goal.lexical-requires
lexical-requires c = record {
  few = omega (arith, wrong_fits (goal.at.lexical-requires c).After-scan_bytes-count c.in-Wrong.code (c.in_ok-outcome.was ∙ ap Ok c.in-Wrong.is), c.lines_read.ensures.lines);
}

pub invariant_of-self-in-Wrong : goal.invariant_of-self-in-Wrong
invariant_of-self-in-Wrong c =
    let after = (goal.at.invariant_of-self-in-Wrong c).After-scan_bytes-count in
    let o = c.in_ok-outcome.was ∙ ap Ok c.in-Wrong.is in (
      (wrong after c.in-Wrong.code o).0,
      tight-wrong _ c.self.inside.start c.self.inside.scanned c.scan_bytes-count.result.count _ c.scan_bytes-count.result.outcome (is_unread after) c.self.invariant.0.scanned_le c.scan_bytes-count.ensures.takes c.in-Wrong.code o,
    )

pub overflow_add-line : goal.overflow_add-line
overflow_add-line c =
    let after = (goal.at.overflow_add-line c).After-scan_bytes-count in
    let done = command after c.in-Command.expr (c.in_ok-outcome.was ∙ ap Ok c.in-Command.is) in
    omega (arith, fits after c.scan_bytes-count.new.scanner.before done.begun)

pub overflow_add-line-in-Command : goal.overflow_add-line-in-Command
overflow_add-line-in-Command c =
    let after = (goal.at.overflow_add-line-in-Command c).After-scan_bytes-count in
    let done = command after c.in-Command.expr (c.in_ok-outcome.was ∙ ap Ok c.in-Command.is) in
    omega (arith, fits after c.scan_bytes-count.new.scanner.before done.begun)

pub overflow_add-self-in-Command : goal.overflow_add-self-in-Command
overflow_add-self-in-Command c =
    let after = (goal.at.overflow_add-self-in-Command c).After-scan_bytes-count in
    let done = command after c.in-Command.expr (c.in_ok-outcome.was ∙ ap Ok c.in-Command.is) in
    omega (arith, done.lines.few, c.self.invariant.0.few)

pub invariant_of-self-in-Command : goal.invariant_of-self-in-Command
invariant_of-self-in-Command c =
    let after = (goal.at.invariant_of-self-in-Command c).After-scan_bytes-count in
    let i = c.self.inside in
    let done = command after c.in-Command.expr (c.in_ok-outcome.was ∙ ap Ok c.in-Command.is) in
    let d = c.drop_if_read-in-Command.ensures in
    let given = buffered-give i.buffer.items i.start i.scanned c.scan_bytes-count.result.count i.scanner c.scan_bytes-count.new.scanner c.take_line_feeds.new.self (expression_of c.in-Command.expr) i.lines i.fed _ c.self.invariant.0
    (is_unread after) c.scan_bytes-count.ensures.within done
    (fresh_again c.scan_bytes-count.new.scanner c.take_line_feeds.new.self done.fresh c.take_line_feeds.ensures.after) (ap (λ x. x.line_feeds) c.take_line_feeds.ensures.after) in
    rw c.take_line_feeds.ensures.count (buffered-settled i.buffer.items c.drop_if_read-in-Command.new.buffer.items _ _ c.drop_if_read-in-Command.new.start c.drop_if_read-in-Command.new.scanned _ _ _ given d.kept d.unread d.order d.within, d.tight)

pub returns-in-Going : goal.returns-in-Going
returns-in-Going c =
    let i = c.self.inside in
    let r = (all (goal.at.returns-in-Going c).After-scan_bytes-count (c.in_ok-outcome.was ∙ ap Ok c.in-Going.is)).1 in
    let before = unread (drop i.start i.buffer.items) i.lines i.fed i.ended in
    let answers = c.next_at_end.ensures.answers (drop i.start i.buffer.items) i.fed r in
    record {
      answers = rw (c.drop_if_read.ensures.kept, ← c.self.view_is) answers;
      reads = rw (c.drop_if_read.ensures.kept, ← c.self.view_is) (reads_on before before c.next_at_end.result answers);
      nests = answer_nests before before c.next_at_end.result answers;
    }

pub returns-in-Wrong : goal.returns-in-Wrong
returns-in-Wrong c =
    let i = c.self.inside in
    let r = (wrong (goal.at.returns-in-Wrong c).After-scan_bytes-count c.in-Wrong.code (c.in_ok-outcome.was ∙ ap Ok c.in-Wrong.is)).1 in
    let before = unread (drop i.start i.buffer.items) i.lines i.fed i.ended in
    let answers = refuses c.scan_bytes-count.new.scanner c.in-Wrong.code (drop i.start i.buffer.items) _ i.lines i.fed i.ended r in
    record {
      answers = rw (c.lexical.ensures.error, c.lines_read.ensures.lines, ← c.self.view_is) answers;
      reads = rw (c.lexical.ensures.error, c.lines_read.ensures.lines, ← c.self.view_is) (refused_is_last before before c.in-Wrong.code _ answers);
      nests = tt;
    }

pub returns-in-Command : goal.returns-in-Command
returns-in-Command c =
    let i = c.self.inside in
    let done = command (goal.at.returns-in-Command c).After-scan_bytes-count c.in-Command.expr (c.in_ok-outcome.was ∙ ap Ok c.in-Command.is) in
    let answers = gives c.scan_bytes-count.new.scanner (expression_of c.in-Command.expr) (drop i.start i.buffer.items) (drop (i.scanned + c.scan_bytes-count.result.count) i.buffer.items) i.lines i.fed i.ended done in
    record {
      answers = rw (c.drop_if_read-in-Command.ensures.kept, ← c.self.view_is, c.begun.ensures.lines, c.take_line_feeds.ensures.count) answers;
      reads = rw (c.drop_if_read-in-Command.ensures.kept, ← c.self.view_is, c.begun.ensures.lines, c.take_line_feeds.ensures.count) (given_is_first _ _ _ _ answers);
      nests = given_nests _ _ _ _ answers;
    }
