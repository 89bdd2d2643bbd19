use Rattle.std.proofs.Common.{◌≡◌, ◌∙◌, ◌++◌, ◌<◌, List, [], length, take, drop, refl, sym, ap, subst, arith}
use Rattle.std.proofs.lemmas.List.{take-append-drop}
use Rattle.std.proofs.lemmas.Option.{slice_get_within}
use Rattle.ct_terms.specs.declared.ids.Lit.{Lit}
use Rattle.ct_sat.specs.declared.decided.Decided.{Decided}
use Rattle.ct_sat.specs.State.{SearchState}
use Rattle.ct_engine.specs.declared.course.Course.{Course}
use Rattle.ct_engine.proofs.AgainLemmas.{took_back, taken_trail}
use Rattle.ct_engine.proofs.AccountLemmas.{IsAccounted-unrecorded}
use Rattle.ct_engine.proofs.TurnLemmas.{begins_itself}
use Rattle.ct_engine.proofs.ListLemmas.{Begins-itself}
use Rattle.ct_engine.proofs.guided.take_back.Goals as goal

pub returns-then-restart-clause-same : goal.returns-then-restart-clause-same
returns-then-restart-clause-same c =
    let went = rw c.if-restart.true at c.restart.ensures.restarted in
    record {
      declarations = refl;
      terms = refl;
      asserts = refl;
      over = ap (λ (s : SearchState). s.variables) went.after;
      budget = ap (λ (s : SearchState). s.budget) went.after;
      variables = refl;
      recorded = refl;
      initial = refl;
      kept = refl;
      lines = Begins-itself c.args.course.now.derivation.rec.lines;
      moves = λ e. Begins-itself c.args.course.now.moves.items;
    }

pub returns-then-restart-clause-trail : goal.returns-then-restart-clause-trail
returns-then-restart-clause-trail c =
    let went = rw c.if-restart.true at c.restart.ensures.restarted in
    taken_trail c.args.course.now.search c.restart.new.self went

pub returns-then-restart-clause-anew : goal.returns-then-restart-clause-anew
returns-then-restart-clause-anew c =
    let course = c.args.course.now in
    let went = rw c.if-restart.true at c.restart.ensures.restarted in (
      IsAccounted-unrecorded course.recorded course.search c.restart.new.self course.derivation course.initial course.moves.items c.requires.guided
          (ap (λ (s : SearchState). s.variables) went.after) (ap (λ (s : SearchState). s.clauses) went.after) c.requires.under_way,
      took_back course.search c.restart.new.self went,
    )
