use Rattle.std.proofs.Common.{refl, ap}
use Rattle.ct_log.specs.Recorded.{Derived}
use Rattle.ct_engine.proofs.LineLemmas.{accepted_learned}
use Rattle.ct_engine.proofs.AccountLemmas.{IsAccounted-learned}
use Rattle.ct_engine.proofs.learn.record_learned.Goals as goal

pub push-requires : goal.push-requires
push-requires c =
    let course = c.args.course.now in
    let given = c.requires.learned in
    record { accepted = accepted_learned c.learned_clauses_follow.ensures.listed course.recorded given.0 course.derivation course.initial course.moves.items c.args.lits c.args.hints given.1 given.5.follows given.5.over }

pub returns-clause-under_way : goal.returns-clause-under_way
returns-clause-under_way c =
    let course = c.args.course.now in
    let given = c.requires.learned in
    rw c.in_ok-push.ensures.ok
    (IsAccounted-learned c.units.ensures.units course.recorded given.0 course.search course.derivation course.initial course.moves.items c.args.number c.args.keep given.3 c.args.lits c.args.hints given.2 given.4 c.requires.number given.5 given.1 c.note.new.moves.items c.in_ok-note.ensures.noted)

pub returns-clause-same : goal.returns-clause-same
returns-clause-same c = record {
  declarations = ap (λ (x : Derived). x.declarations) c.in_ok-push.ensures.ok;
  terms = ap (λ (x : Derived). x.rec.terms) c.in_ok-push.ensures.ok;
  asserts = ap (λ (x : Derived). x.asserts) c.in_ok-push.ensures.ok;
  over = refl;
  budget = refl;
  variables = refl;
  recorded = refl;
  initial = refl;
  kept = refl;
  lines = (_, ap (λ (x : Derived). x.rec.lines) c.in_ok-push.ensures.ok);
  moves = λ e. (_, c.in_ok-note.ensures.noted e);
}

pub returns-clause-search : goal.returns-clause-search
returns-clause-search c = refl
