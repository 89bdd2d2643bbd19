use Rattle.std.proofs.Common.{ℕ, [], ◌∷◌, ◌++◌, refl, sym, ap, subst, ◌∙◌}
use Rattle.ct_sat.specs.State.{SearchState, AreOver}
use Rattle.ct_log.specs.Recorded.{Derived}
use Rattle.ct_engine.specs.declared.verdict.Move.TheVariants as move
use Rattle.ct_engine.proofs.MoveLemmas.{fresh_line}
use Rattle.ct_engine.proofs.TaughtLemmas.{over_stripped, IsAccounted-taught}
use Rattle.ct_engine.proofs.taught.add_taught.Goals as goal

pub add_clause-requires-clause-over : goal.add_clause-requires-clause-over
add_clause-requires-clause-over c =
    let course = c.args.course.now in
    subst (AreOver course.search.variables) (sym c.as_slice.ensures.value) (over_stripped course.derivation.rec.terms course.search.variables c.args.line.clause c.requires.under_way.variables c.requires.accepted.literals)

pub add_clause-requires-clause-fresh : goal.add_clause-requires-clause-fresh
add_clause-requires-clause-fresh c =
    let course = c.args.course.now in
    fresh_line course.search.clauses course.derivation.rec.lines c.next_number-number.result c.next_number-number.ensures.number c.requires.under_way.numbered

pub push-requires : goal.push-requires
push-requires c = record { accepted = c.requires.accepted }

pub returns-clause-under_way : goal.returns-clause-under_way
returns-clause-under_way c =
    let course = c.args.course.now in
    rw (c.in_ok-add_clause.ensures.added, c.as_slice.ensures.value, c.in_ok-push.ensures.ok)
    (IsAccounted-taught course.recorded course.search course.derivation course.initial course.moves.items c.next_number-number.result c.args.line c.next_number-number.ensures.number c.requires.taught c.requires.start c.requires.under_way c.note.new.moves.items c.in_ok-note.ensures.noted)

pub returns-clause-same : goal.returns-clause-same
returns-clause-same c = record {
  declarations = ap (λ (x : Derived). x.declarations) c.in_ok-push.ensures.ok;
  terms = ap (λ (x : Derived). x.rec.terms) c.in_ok-push.ensures.ok;
  asserts = ap (λ (x : Derived). x.asserts) c.in_ok-push.ensures.ok;
  over = ap (λ (s : SearchState). s.variables) c.in_ok-add_clause.ensures.added;
  budget = ap (λ (s : SearchState). s.budget) c.in_ok-add_clause.ensures.added;
  variables = refl;
  recorded = refl;
  initial = refl;
  kept = refl;
  lines = (_, ap (λ (x : Derived). x.rec.lines) c.in_ok-push.ensures.ok);
  moves = λ e. (_, c.in_ok-note.ensures.noted e);
}

pub returns-clause-counted : goal.returns-clause-counted
returns-clause-counted c = ap (λ (s : SearchState). s.count) c.in_ok-add_clause.ensures.added

pub returns-clause-line : goal.returns-clause-line
returns-clause-line c = ap (λ (x : Derived). x.rec.lines) c.in_ok-push.ensures.ok

pub returns-clause-added : goal.returns-clause-added
returns-clause-added c =
    let course = c.args.course.now in
    λ recorded. c.in_ok-note.ensures.noted recorded ∙ ap (λ (n : ℕ). course.moves.items ++ move.Add n ∷ []) c.next_number-number.ensures.number

pub returns-clause-trail : goal.returns-clause-trail
returns-clause-trail c = ap (λ (s : SearchState). s.trail) c.in_ok-add_clause.ensures.added
