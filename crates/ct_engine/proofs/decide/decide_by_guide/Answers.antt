use Rattle.std.proofs.Common.{◌≡◌, ◌+◌, ◌<◌, ◌∷◌, [], refl, ap, arith}
use Rattle.ct_sat.specs.State.{SearchState}
use Rattle.ct_engine.proofs.AccountLemmas.{IsAccounted-unrecorded}
use Rattle.ct_lemmas.proofs.Options.{OnOk-map}
use Rattle.ct_engine.proofs.ListLemmas.{Begins-itself}
use Rattle.ct_engine.proofs.decide.decide_by_guide.Goals as goal

pub returns-in-Some-clause-same : goal.returns-in-Some-clause-same
returns-in-Some-clause-same c = record {
  declarations = refl;
  terms = refl;
  asserts = refl;
  over = ap (λ (s : SearchState). s.variables) c.decide_on.ensures.decided;
  budget = ap (λ (s : SearchState). s.budget) c.decide_on.ensures.decided;
  variables = refl;
  recorded = refl;
  initial = refl;
  kept = refl;
  lines = Begins-itself c.args.course.now.derivation.rec.lines;
  moves = λ e. Begins-itself c.args.course.now.moves.items;
}

pub returns-in-Some-clause-decided : goal.returns-in-Some-clause-decided
returns-in-Some-clause-decided c =
    let course = c.args.course.now in
    let is = c.decide_on.ensures.decided in
    let counted : c.decide_on.new.self.count ≡ course.search.count + 1 = ap (λ (s : SearchState). s.count) is in
    let budget : c.decide_on.new.self.budget ≡ course.search.budget = ap (λ (s : SearchState). s.budget) is in
    let left : course.search.count < course.search.budget = rw c.if-is_spent.false at c.is_spent.ensures.spent in (
      IsAccounted-unrecorded course.recorded course.search c.decide_on.new.self course.derivation course.initial course.moves.items c.requires.guided
          (ap (λ (s : SearchState). s.variables) is) (ap (λ (s : SearchState). s.clauses) is) c.requires.under_way,
      record { counted = counted; allowed = omega (arith, counted, budget, left) },
    )

pub returns-in-Some-clause-trail : goal.returns-in-Some-clause-trail
returns-in-Some-clause-trail c = (c.in-Some.literal ∷ [], ap (λ (s : SearchState). s.trail) c.decide_on.ensures.decided)

pub returns-in-None-clause-same : goal.returns-in-None-clause-same
returns-in-None-clause-same c =
    OnOk-map c.decide_lowest-in-None.result _ _ (λ h. record {
      declarations = h.declarations;
      terms = h.terms;
      asserts = h.asserts;
      over = h.over;
      budget = h.budget;
      variables = h.variables;
      recorded = h.recorded;
      initial = h.initial;
      kept = h.kept;
      lines = h.lines;
      moves = h.moves;
    }) c.decide_lowest-in-None.ensures.same

pub returns-then-is_spent-clause-same : goal.returns-then-is_spent-clause-same
returns-then-is_spent-clause-same c =
    OnOk-map c.decide_lowest.result _ _ (λ h. record {
      declarations = h.declarations;
      terms = h.terms;
      asserts = h.asserts;
      over = h.over;
      budget = h.budget;
      variables = h.variables;
      recorded = h.recorded;
      initial = h.initial;
      kept = h.kept;
      lines = h.lines;
      moves = h.moves;
    }) c.decide_lowest.ensures.same
