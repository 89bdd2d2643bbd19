use Rattle.std.proofs.Common.{refl, ap}
use Rattle.ct_sat.specs.State.{SearchState}
use Rattle.ct_engine.proofs.AccountLemmas.{IsAccounted-propagated}
use Rattle.ct_engine.proofs.ListLemmas.{Begins-itself}
use Rattle.ct_engine.proofs.settle.propagate.Goals as goal

pub returns-clause-under_way : goal.returns-clause-under_way
returns-clause-under_way c =
    let course = c.args.course.now in
    IsAccounted-propagated course.recorded course.search c.propagate.new.self course.derivation course.initial course.moves.items c.trail-trail.ensures.sound c.propagate.ensures.appends c.requires.under_way

pub returns-clause-same : goal.returns-clause-same
returns-clause-same c =
    let is = c.propagate.ensures.appends.1 in
    record {
      declarations = refl;
      terms = refl;
      asserts = refl;
      over = ap (λ (s : SearchState). s.variables) is;
      budget = ap (λ (s : SearchState). s.budget) is;
      variables = refl;
      recorded = refl;
      initial = refl;
      kept = refl;
      lines = Begins-itself c.args.course.now.derivation.rec.lines;
      moves = λ e. Begins-itself c.args.course.now.moves.items;
    }

pub returns-clause-counted : goal.returns-clause-counted
returns-clause-counted c = ap (λ (s : SearchState). s.count) c.propagate.ensures.appends.1

pub returns-clause-decided : goal.returns-clause-decided
returns-clause-decided c = ap (λ (s : SearchState). s.decided) c.propagate.ensures.appends.1

pub returns-clause-trail : goal.returns-clause-trail
returns-clause-trail c = (c.propagate.ensures.appends.0, ap (λ (s : SearchState). s.trail) c.propagate.ensures.appends.1)
