use Rattle.std.proofs.Common.{◌≡◌, ◌+◌, ◌-◌, ◌<◌, ◌≤◌, ◌∙◌, List, All, Some, length, slice_get, get_or, refl, sym, ap, subst, arith}
use Rattle.std.proofs.lemmas.List.Elements.{All-get_or}
use Rattle.ct_lemmas.proofs.Lists.{slice_get-read}
use Rattle.ct_log.specs.declared.line.Line.{Line}
use Rattle.ct_log.specs.Recorded.{Recorded}
use Rattle.ct_sat.specs.State.{SearchState, AreOver}
use Rattle.ct_engine.proofs.PrepareLemmas.{lines_over}
use Rattle.ct_engine.proofs.AgainLemmas.{IsAccounted-added_again, fresh_past, up_to_added}
use Rattle.ct_engine.proofs.ListLemmas.{Begins-itself}
use Rattle.ct_engine.proofs.again.add_line.Goals as goal

pub add_clause-requires-clause-over : goal.add_clause-requires-clause-over
add_clause-requires-clause-over c =
    let course = c.args.course.now in
    let lines_are : c.lines-lines.result.now ≡ course.derivation.rec.lines = c.lines-lines.ensures.value ∙ ap (λ (r : Recorded). r.lines) c.rec.ensures.value in
    let long : length c.lines-lines.result.now ≡ length course.derivation.rec.lines = ap (λ (ls : List Line). length ls) lines_are in
    let above = c.requires.taught in
    let stands = c.requires.stands in
    let within : c.args.number - 1 < length c.lines-lines.result.now = omega (arith, long, above, stands) in
    let all = lines_over course.derivation.declarations course.derivation.rec.terms course.derivation.asserts course.derivation.rec.lines course.search.variables c.requires.under_way.variables c.rec.ensures.derivation.accepted in
    subst (AreOver course.search.variables) (sym c.as_slice.ensures.value)
    (All-get_or (λ (l : Line). AreOver course.search.variables l.clause) c.lines-lines.result.now (c.args.number - 1) c.index-lines-index.result within
    (subst (λ (ls : List Line). All (λ (l : Line). AreOver course.search.variables l.clause) ls) (sym lines_are) all))

pub add_clause-requires-clause-fresh : goal.add_clause-requires-clause-fresh
add_clause-requires-clause-fresh c =
    let before = c.requires.before in
    fresh_past c.args.course.now.search.clauses before.0 c.args.number before.1 before.2

pub returns-clause-under_way : goal.returns-clause-under_way
returns-clause-under_way c =
    let course = c.args.course.now in
    let lines_are : c.lines-lines.result.now ≡ course.derivation.rec.lines = c.lines-lines.ensures.value ∙ ap (λ (r : Recorded). r.lines) c.rec.ensures.value in
    let above = c.requires.taught in
    let stands = c.requires.stands in
    let within : c.args.number - 1 < length course.derivation.rec.lines = omega (arith, above, stands) in
    let line : Line = get_or c.lines-lines.result.now (c.args.number - 1) c.index-lines-index.result in
    let at : slice_get course.derivation.rec.lines (c.args.number - 1) ≡ Some line = slice_get-read course.derivation.rec.lines c.lines-lines.result.now lines_are (c.args.number - 1) c.index-lines-index.result within in
    rw (c.in_ok-add_clause.ensures.added, c.as_slice.ensures.value)
    (IsAccounted-added_again course.recorded course.search course.derivation course.initial course.moves.items c.args.number (c.args.number - 1) line (omega (arith, above)) (omega (arith, above)) at c.requires.start c.requires.under_way c.note.new.moves.items c.in_ok-note.ensures.noted)

pub returns-clause-same : goal.returns-clause-same
returns-clause-same c = record {
  declarations = refl;
  terms = refl;
  asserts = refl;
  over = ap (λ (s : SearchState). s.variables) c.in_ok-add_clause.ensures.added;
  budget = ap (λ (s : SearchState). s.budget) c.in_ok-add_clause.ensures.added;
  variables = refl;
  recorded = refl;
  initial = refl;
  kept = refl;
  lines = Begins-itself c.args.course.now.derivation.rec.lines;
  moves = λ e. (_, c.in_ok-note.ensures.noted e);
}

pub returns-clause-start : goal.returns-clause-start
returns-clause-start c = ap (λ (s : SearchState). s.decided) c.in_ok-add_clause.ensures.added ∙ c.requires.start

pub returns-clause-up_to : goal.returns-clause-up_to
returns-clause-up_to c =
    let before = c.requires.before in
    rw c.in_ok-add_clause.ensures.added (up_to_added c.args.course.now.search.clauses before.0 c.args.number _ before.1 before.2)
