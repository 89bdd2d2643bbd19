use Rattle.std.proofs.Common.{refl, sym, ap, subst}
use Rattle.ct_sat.specs.State.{SearchState, AreOver}
use Rattle.ct_log.specs.Recorded.{Derived}
use Rattle.ct_log.specs.declared.line.Line.{Line}
use Rattle.ct_log.specs.declared.line.Step.TheVariants as step
use Rattle.ct_engine.proofs.MoveLemmas.{fresh_line}
use Rattle.ct_engine.proofs.LineLemmas.{accepted_conflict, over_false, conflict_added}
use Rattle.ct_engine.proofs.AccountLemmas.{IsAccounted-added}
use Rattle.ct_engine.proofs.learn.add_conflict.Goals as goal

pub add_clause-requires-clause-over : goal.add_clause-requires-clause-over
add_clause-requires-clause-over c =
    let course = c.args.course.now in
    subst (AreOver course.search.variables) (sym c.as_slice.ensures.value) (over_false course.search c.args.conflict.clause c.trail-trail.ensures.sound c.requires.conflict.false)

pub add_clause-requires-clause-fresh : goal.add_clause-requires-clause-fresh
add_clause-requires-clause-fresh c =
    let course = c.args.course.now in
    fresh_line course.search.clauses course.derivation.rec.lines c.next_number-number.result c.next_number-number.ensures.number c.requires.under_way.numbered

pub push-requires : goal.push-requires
push-requires c =
    let course = c.args.course.now in
    record { accepted = accepted_conflict course.search course.derivation.declarations course.derivation.rec.terms course.derivation.asserts _ c.args.conflict.clause c.args.conflict.steps c.args.conflict.close c.requires.under_way.variables c.trail-trail.ensures.sound c.requires.conflict }

pub returns-clause-under_way : goal.returns-clause-under_way
returns-clause-under_way c =
    let course = c.args.course.now in
    let line : Line = record { clause = c.args.conflict.clause; step = step.Theory c.args.conflict.steps c.args.conflict.close } in
    rw (c.in_ok-add_clause.ensures.added, c.as_slice.ensures.value, c.in_ok-push.ensures.ok)
    (IsAccounted-added c.units.ensures.units course.recorded course.search course.derivation course.initial course.moves.items c.next_number-number.result line c.trail-trail.ensures.sound c.next_number-number.ensures.number tt c.requires.conflict.false c.requires.under_way c.note.new.moves.items c.in_ok-note.ensures.noted)

pub returns-clause-same : goal.returns-clause-same
returns-clause-same c = record {
  declarations = ap (λ (x : Derived). x.declarations) c.in_ok-push.ensures.ok;
  terms = ap (λ (x : Derived). x.rec.terms) c.in_ok-push.ensures.ok;
  asserts = ap (λ (x : Derived). x.asserts) c.in_ok-push.ensures.ok;
  over = ap (λ (s : SearchState). s.variables) c.in_ok-add_clause.ensures.added;
  budget = ap (λ (s : SearchState). s.budget) c.in_ok-add_clause.ensures.added;
  variables = refl;
  recorded = refl;
  initial = refl;
  kept = refl;
  lines = (_, ap (λ (x : Derived). x.rec.lines) c.in_ok-push.ensures.ok);
  moves = λ e. (_, c.in_ok-note.ensures.noted e);
}

pub returns-clause-conflict : goal.returns-clause-conflict
returns-clause-conflict c =
    let course = c.args.course.now in
    rw (c.in_ok-add_clause.ensures.added, c.as_slice.ensures.value)
    (conflict_added course.search c.next_number-number.result c.args.conflict.clause c.requires.conflict.false)

pub returns-clause-counted : goal.returns-clause-counted
returns-clause-counted c = ap (λ (s : SearchState). s.count) c.in_ok-add_clause.ensures.added

pub returns-clause-decided : goal.returns-clause-decided
returns-clause-decided c = ap (λ (s : SearchState). s.decided) c.in_ok-add_clause.ensures.added

pub returns-clause-trail : goal.returns-clause-trail
returns-clause-trail c = ap (λ (s : SearchState). s.trail) c.in_ok-add_clause.ensures.added
