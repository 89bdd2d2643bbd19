use Rattle.std.proofs.Common.{◌≡◌, ℕ, true, ◌+◌, ◌-◌, ◌≤◌, List, [], ◌++◌, length, All, refl, sym, ap, subst, ◌∙◌, arith, length-append}
use Rattle.std.proofs.lemmas.List.{append-nil}
use Rattle.ct_sorts.specs.Declarations.{Declarations}
use Rattle.ct_terms.specs.Terms.{Terms}
use Rattle.ct_terms.specs.Clause.{Clause}
use Rattle.ct_log.specs.declared.line.Line.{Line}
use Rattle.ct_log.specs.Recorded.{Recorded}
use Rattle.ct_log.specs.Acceptance.{IsAccepted}
use Rattle.ct_kept.specs.Kept.{AreMovedLines}
use Rattle.ct_engine.specs.declared.verdict.Move.{Move}
use Rattle.ct_engine.specs.Keeping.{adds_after}
use Rattle.ct_engine.proofs.OpeningLemmas.{judges_of}
use Rattle.ct_engine.proofs.OutcomeLemmas.{IsTaskOf-kept}
use Rattle.ct_engine.proofs.TaskLemmas.{IsOfOneClosure-task}
use Rattle.ct_engine.proofs.KeepingLemmas.{course_begun, adds_whole, moved_taught, moved_accepted}
use Rattle.ct_engine.proofs.keeping.add_kept.Goals as goal

pub moved_lines-requires : goal.moved_lines-requires
moved_lines-requires c =
    let course = c.args.course.now in
    record {
      judges =
          rw (c.table-terms.ensures.value, c.rec.ensures.value, c.asserts-asserts.ensures.value)
          (judges_of c.args.sig.now c.args.sizes.now course.derivation c.requires.declarations c.requires.sizes c.rec.ensures.derivation);
    }

pub add_lines-requires-clause-taught : goal.add_lines-requires-clause-taught
add_lines-requires-clause-taught c =
    moved_taught c.args.sig.now c.args.kept.now.table c.table-terms.result.now c.args.kept.now.lemmas c.in_ok-lines.lines.items c.in_ok-lines.ensures.moved

pub add_lines-requires-clause-accepted : goal.add_lines-requires-clause-accepted
add_lines-requires-clause-accepted c =
    let course = c.args.course.now in
    let terms = course.derivation.rec.terms in
    let asserts = course.derivation.asserts in
    let lines = c.in_ok-lines.lines.items in
    let table_is : c.table-terms.result.now ≡ terms = c.table-terms.ensures.value ∙ ap (λ (r : Recorded). r.terms) c.rec.ensures.value in
    let moved : AreMovedLines c.args.sig.now c.args.kept.now terms lines =
    subst (λ (ts : Terms). AreMovedLines c.args.sig.now c.args.kept.now ts lines) table_is c.in_ok-lines.ensures.moved in
    subst (λ (e : Declarations). All (λ (line : Line). (earlier : List Clause) → IsAccepted e terms asserts earlier line) lines) (sym c.requires.declarations)
    (moved_accepted c.args.sig.now c.args.kept.now.table terms asserts c.args.kept.now.lemmas lines moved)

pub returns-clause-before : goal.returns-clause-before
returns-clause-before c = record {
  under_way = c.in_ok-add_lines.ensures.under_way;
  start = c.in_ok-add_lines.ensures.start;
  declarations = c.in_ok-add_lines.ensures.same.declarations ∙ c.requires.declarations;
  sized = c.requires.sizes;
}

pub returns-clause-recorded : goal.returns-clause-recorded
returns-clause-recorded c = c.in_ok-add_lines.ensures.same.recorded ∙ c.requires.recorded

pub returns-clause-task : goal.returns-clause-task
returns-clause-task c = λ table asserts task.
    let h = IsTaskOf-kept c.args.sig.now table asserts c.args.course.now c.add_lines.new.course (IsOfOneClosure-task c.args.course.now c.add_lines.new.course c.in_ok-add_lines.ensures.same) task in
    record { declarations = h.declarations; asserted = h.asserted; closure = h.closure; variables = h.variables; sorted = h.sorted; is_closed = h.is_closed }

-- so many lines are the store's
kept_is : (lines old added : List Line) (initial count number : ℕ) → lines ≡ old ++ added → initial ≡ length old → count ≡ length lines → number ≡ count - initial → number ≡ length added
kept_is lines old added initial count number is first counted numbered =
    let long : length lines ≡ length old + length added = ap (λ (ls : List Line). length ls) is ∙ length-append old added in
    omega (arith, long, first, counted, numbered)

pub returns-clause-begun : goal.returns-clause-begun
returns-clause-begun c =
    let course = c.args.course.now in
    let same = c.in_ok-add_lines.ensures.same in
    let lines = c.in_ok-lines.lines.items in
    let table_is : c.table-terms.result.now ≡ course.derivation.rec.terms = c.table-terms.ensures.value ∙ ap (λ (r : Recorded). r.terms) c.rec.ensures.value in
    let moved : AreMovedLines c.args.sig.now c.args.kept.now course.derivation.rec.terms lines =
    subst (λ (ts : Terms). AreMovedLines c.args.sig.now c.args.kept.now ts lines) table_is c.in_ok-lines.ensures.moved in
    course_begun c.args.sig.now c.args.kept.now course _ lines c.requires.start moved (same.declarations ∙ c.requires.declarations) same.terms same.asserts c.in_ok-add_lines.ensures.lines same.initial
    (kept_is c.add_lines.new.course.derivation.rec.lines course.derivation.rec.lines lines c.add_lines.new.course.initial c.line_count.result (c.line_count.result - c.add_lines.new.course.initial) c.in_ok-add_lines.ensures.lines
    (same.initial ∙ c.requires.start.initial) c.line_count.ensures.value refl)

pub returns-clause-adds : goal.returns-clause-adds
returns-clause-adds c =
    let course = c.args.course.now in
    let new = c.add_lines.new.course in
    let lines = c.in_ok-lines.lines.items in
    let count = c.line_count.result - new.initial in
    let first : new.initial ≡ length course.derivation.rec.lines = c.in_ok-add_lines.ensures.same.initial ∙ c.requires.start.initial in
    let kept : count ≡ length lines =
    kept_is new.derivation.rec.lines course.derivation.rec.lines lines new.initial c.line_count.result count c.in_ok-add_lines.ensures.lines first c.line_count.ensures.value refl in
    let moves : new.moves.items ≡ adds_after (length course.derivation.rec.lines) (length lines) =
    c.in_ok-add_lines.ensures.moves ∙ ap (λ (ms : List Move). ms ++ adds_after (length course.derivation.rec.lines) (length lines)) c.requires.start.moves in (
      [],
      moves
          ∙ (ap (λ (n : ℕ). adds_after n (length lines)) (sym first)
          ∙ (ap (λ (n : ℕ). adds_after new.initial n) (sym kept) ∙ sym (append-nil (adds_after new.initial count)))),
    )

pub returns-clause-stand : goal.returns-clause-stand
returns-clause-stand c =
    let course = c.args.course.now in
    let new = c.add_lines.new.course in
    let lines = c.in_ok-lines.lines.items in
    let count = c.line_count.result - new.initial in
    let first : new.initial ≡ length course.derivation.rec.lines = c.in_ok-add_lines.ensures.same.initial ∙ c.requires.start.initial in
    let kept : count ≡ length lines =
    kept_is new.derivation.rec.lines course.derivation.rec.lines lines new.initial c.line_count.result count c.in_ok-add_lines.ensures.lines first c.line_count.ensures.value refl in
    let long : length new.derivation.rec.lines ≡ length course.derivation.rec.lines + length lines =
    ap (λ (ls : List Line). length ls) c.in_ok-add_lines.ensures.lines ∙ length-append course.derivation.rec.lines lines in
    let stand : new.initial + count ≤ length new.derivation.rec.lines = omega (arith, first, kept, long) in
    stand
