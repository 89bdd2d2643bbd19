use Rattle.std.proofs.Common.{◌≡◌, [], refl, sym, ap, subst, ◌∙◌}
use Rattle.ct_sorts.specs.Grown.{Begins}
use Rattle.ct_log.specs.declared.line.Line.{Line}
use Rattle.ct_log.specs.declared.line.Step.TheVariants as step
use Rattle.ct_log.specs.Recorded.{Derived}
use Rattle.ct_sat.specs.State.{SearchState}
use Rattle.ct_engine.specs.Progress.{TakesBack}
use Rattle.ct_engine.proofs.MoveLemmas.{fresh_line}
use Rattle.ct_engine.proofs.LineLemmas.{accepted_empty}
use Rattle.ct_engine.proofs.LearnLemmas.{takes_back, cuts_trail}
use Rattle.ct_engine.proofs.TurnLemmas.{begins_itself}
use Rattle.ct_engine.proofs.ListLemmas.{Begins-itself}
use Rattle.ct_engine.proofs.learn.learn.Goals as goal

pub learn-requires-clause-fresh : goal.learn-requires-clause-fresh
learn-requires-clause-fresh c =
    let course = c.args.course.now in
    fresh_line course.search.clauses course.derivation.rec.lines c.next_number-number.result c.next_number-number.ensures.number c.requires.under_way.numbered

pub record_learned-requires-clause-learned : goal.record_learned-requires-clause-learned
record_learned-requires-clause-learned c =
    let course = c.args.course.now in
    let learned = rw c.in-Clause.is at c.in_ok-lits.ensures.learned in
    (course.search, c.requires.under_way, c.trail-trail.ensures.sound, c.args.conflict, c.requires.conflict, learned)

pub push-requires : goal.push-requires
push-requires c =
    let course = c.args.course.now in
    let learned = rw c.in-Empty.is at c.in_ok-lits.ensures.learned in
    let empty : c.new-clause.result ≡ [] = cc in
    record { accepted = rw empty (accepted_empty c.learned_clauses_follow.ensures.listed course.recorded course.search course.derivation course.initial course.moves.items c.in-Empty.hints c.requires.under_way learned.follows) }

pub returns-in_ok-record_learned-in-Clause-clause-same : goal.returns-in_ok-record_learned-in-Clause-clause-same
returns-in_ok-record_learned-in-Clause-clause-same c =
    let learned = rw c.in-Clause.is at c.in_ok-lits.ensures.learned in
    let same = c.in_ok-record_learned-in-Clause.ensures.same in
    record {
      declarations = same.declarations;
      terms = same.terms;
      asserts = same.asserts;
      over = same.over ∙ ap (λ (s : SearchState). s.variables) learned.after;
      budget = same.budget ∙ ap (λ (s : SearchState). s.budget) learned.after;
      variables = same.variables;
      recorded = same.recorded;
      initial = same.initial;
      kept = same.kept;
      lines = same.lines;
      moves = same.moves;
    }

pub returns-in_ok-record_learned-in-Clause-clause-learned : goal.returns-in_ok-record_learned-in-Clause-clause-learned
returns-in_ok-record_learned-in-Clause-clause-learned c =
    let course = c.args.course.now in
    let learned = rw c.in-Clause.is at c.in_ok-lits.ensures.learned in
    let back = takes_back course.search c.learn.new.self c.next_number-number.result c.in-Clause.lits c.in-Clause.hints c.in-Clause.keep learned in
    λ theory. (
      c.in_ok-record_learned-in-Clause.ensures.under_way,
      subst (λ (s : SearchState). TakesBack course.search s) (sym c.in_ok-record_learned-in-Clause.ensures.search) back,
    )

pub returns-in_ok-push-in-Empty-clause-same : goal.returns-in_ok-push-in-Empty-clause-same
returns-in_ok-push-in-Empty-clause-same c =
    let learned = rw c.in-Empty.is at c.in_ok-lits.ensures.learned in
    record {
      declarations = ap (λ (x : Derived). x.declarations) c.in_ok-push-in-Empty.ensures.ok;
      terms = ap (λ (x : Derived). x.rec.terms) c.in_ok-push-in-Empty.ensures.ok;
      asserts = ap (λ (x : Derived). x.asserts) c.in_ok-push-in-Empty.ensures.ok;
      over = ap (λ (s : SearchState). s.variables) learned.after;
      budget = ap (λ (s : SearchState). s.budget) learned.after;
      variables = refl;
      recorded = refl;
      initial = refl;
      kept = refl;
      lines = (_, ap (λ (x : Derived). x.rec.lines) c.in_ok-push-in-Empty.ensures.ok);
      moves = λ e. Begins-itself c.args.course.now.moves.items;
    }

pub returns-in_ok-push-in-Empty-clause-learned : goal.returns-in_ok-push-in-Empty-clause-learned
returns-in_ok-push-in-Empty-clause-learned c =
    let course = c.args.course.now in
    let line : Line = record { clause = c.new-clause.result; step = step.Learn c.in-Empty.hints } in
    let empty : c.new-clause.result ≡ [] = cc in
    λ theory. (course.derivation.rec.lines, line, ap (λ (x : Derived). x.rec.lines) c.in_ok-push-in-Empty.ensures.ok, empty)

pub returns-in_ok-record_learned-in-Clause-clause-trail : goal.returns-in_ok-record_learned-in-Clause-clause-trail
returns-in_ok-record_learned-in-Clause-clause-trail c =
    let course = c.args.course.now in
    let learned = rw c.in-Clause.is at c.in_ok-lits.ensures.learned in
    let cut = cuts_trail course.search c.learn.new.self c.next_number-number.result c.in-Clause.lits c.in-Clause.hints c.in-Clause.keep learned in
    subst (λ (s : SearchState). Begins s.trail course.search.trail) (sym c.in_ok-record_learned-in-Clause.ensures.search) cut

pub returns-in_ok-push-in-Empty-clause-trail : goal.returns-in_ok-push-in-Empty-clause-trail
returns-in_ok-push-in-Empty-clause-trail c =
    let course = c.args.course.now in
    let learned = rw c.in-Empty.is at c.in_ok-lits.ensures.learned in
    subst (λ (s : SearchState). Begins s.trail course.search.trail) (sym learned.after) (begins_itself course.search.trail)
