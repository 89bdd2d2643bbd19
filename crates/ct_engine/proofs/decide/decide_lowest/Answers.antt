use Rattle.std.proofs.Common.{◌≡◌, ◌+◌, ◌∷◌, [], refl, sym, ap, subst, arith}
use Rattle.ct_sorts.specs.Grown.{Begins}
use Rattle.ct_sat.specs.State.{SearchState}
use Rattle.ct_engine.proofs.AccountLemmas.{IsAccounted-decided}
use Rattle.ct_engine.proofs.TurnLemmas.{begins_itself}
use Rattle.ct_engine.proofs.ListLemmas.{Begins-itself}
use Rattle.ct_engine.proofs.decide.decide_lowest.Goals as goal

pub returns-in-All-clause-same : goal.returns-in-All-clause-same
returns-in-All-clause-same c =
    let same = c.in-All.ensures.leaves in
    record {
      declarations = refl;
      terms = refl;
      asserts = refl;
      over = ap (λ (s : SearchState). s.variables) same;
      budget = ap (λ (s : SearchState). s.budget) same;
      variables = refl;
      recorded = refl;
      initial = refl;
      kept = refl;
      lines = Begins-itself c.args.course.now.derivation.rec.lines;
      moves = λ e. Begins-itself c.args.course.now.moves.items;
    }

pub returns-in-All-clause-decided : goal.returns-in-All-clause-decided
returns-in-All-clause-decided c =
    let same = c.in-All.ensures.leaves in
    rw same (c.requires.under_way, c.requires.quiet, c.in-All.ensures.all.0 refl, refl)

pub returns-in-Spent-clause-same : goal.returns-in-Spent-clause-same
returns-in-Spent-clause-same c =
    let same = c.in-Spent.ensures.leaves in
    record {
      declarations = refl;
      terms = refl;
      asserts = refl;
      over = ap (λ (s : SearchState). s.variables) same;
      budget = ap (λ (s : SearchState). s.budget) same;
      variables = refl;
      recorded = refl;
      initial = refl;
      kept = refl;
      lines = Begins-itself c.args.course.now.derivation.rec.lines;
      moves = λ e. Begins-itself c.args.course.now.moves.items;
    }

pub returns-in-Spent-clause-decided : goal.returns-in-Spent-clause-decided
returns-in-Spent-clause-decided c =
    let same = c.in-Spent.ensures.leaves in
    let spent = c.in-Spent.ensures.spent.0 refl in
    rw same (c.requires.under_way, c.requires.quiet, spent.0, spent.1)

pub returns-in_ok-push-in-Took-clause-same : goal.returns-in_ok-push-in-Took-clause-same
returns-in_ok-push-in-Took-clause-same c =
    let takes = c.in-Took.ensures.leaves in
    record {
      declarations = refl;
      terms = refl;
      asserts = refl;
      over = ap (λ (s : SearchState). s.variables) takes.step;
      budget = ap (λ (s : SearchState). s.budget) takes.step;
      variables = refl;
      recorded = refl;
      initial = refl;
      kept = refl;
      lines = Begins-itself c.args.course.now.derivation.rec.lines;
      moves = λ e. (_, c.in_ok-push-in-Took.ensures.items);
    }

pub returns-in_ok-push-in-Took-clause-decided : goal.returns-in_ok-push-in-Took-clause-decided
returns-in_ok-push-in-Took-clause-decided c =
    let course = c.args.course.now in
    let takes = c.in-Took.ensures.leaves in
    let counted : c.decide.new.self.count ≡ course.search.count + 1 = ap (λ (s : SearchState). s.count) takes.step in
    let budget : c.decide.new.self.budget ≡ course.search.budget = ap (λ (s : SearchState). s.budget) takes.step in
    let left = takes.left in
    let under_way = IsAccounted-decided c.units.ensures.units course.recorded course.search c.decide.new.self course.derivation course.initial course.moves.items c.in-Took.literal c.trail-trail.ensures.sound c.requires.quiet takes c.requires.under_way in (
      rw c.in_ok-push-in-Took.ensures.items under_way,
      record { counted = counted; allowed = omega (arith, counted, budget, left) },
    )

pub returns-in-All-clause-trail : goal.returns-in-All-clause-trail
returns-in-All-clause-trail c =
    let trail = c.args.course.now.search.trail in
    subst (λ (s : SearchState). Begins trail s.trail) (sym c.in-All.ensures.leaves) (begins_itself trail)

pub returns-in-Spent-clause-trail : goal.returns-in-Spent-clause-trail
returns-in-Spent-clause-trail c =
    let trail = c.args.course.now.search.trail in
    subst (λ (s : SearchState). Begins trail s.trail) (sym c.in-Spent.ensures.leaves) (begins_itself trail)

pub returns-in_ok-push-in-Took-clause-trail : goal.returns-in_ok-push-in-Took-clause-trail
returns-in_ok-push-in-Took-clause-trail c = (c.in-Took.literal ∷ [], ap (λ (s : SearchState). s.trail) c.in-Took.ensures.leaves.step)
