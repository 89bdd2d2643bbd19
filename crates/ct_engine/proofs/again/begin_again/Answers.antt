use Rattle.std.proofs.Common.{refl, ap}
use Rattle.ct_sat.specs.State.{SearchState}
use Rattle.ct_engine.proofs.AgainLemmas.{begun_within, IsAccounted-again, again_up_to}
use Rattle.ct_engine.proofs.ListLemmas.{Begins-itself}
use Rattle.ct_engine.proofs.again.begin_again.Goals as goal

pub search_over_first-requires : goal.search_over_first-requires
search_over_first-requires c =
    let course = c.args.course.now in
    record { fits = begun_within course.recorded course.search course.derivation course.initial course.moves.items c.requires.under_way }

pub returns-clause-under_way : goal.returns-clause-under_way
returns-clause-under_way c =
    let course = c.args.course.now in
    rw c.new-moves.ensures.items (IsAccounted-again course.recorded c.args.recorded course.search c.in_ok-search.search course.derivation course.initial course.moves.items c.args.budget c.requires.under_way c.in_ok-search.ensures.search)

pub returns-clause-same : goal.returns-clause-same
returns-clause-same c = record {
  declarations = refl;
  terms = refl;
  asserts = refl;
  variables = refl;
  initial = refl;
  kept = refl;
  lines = Begins-itself c.args.course.now.derivation.rec.lines;
}

pub returns-clause-budget : goal.returns-clause-budget
returns-clause-budget c = ap (λ (s : SearchState). s.budget) c.in_ok-search.ensures.search.only_begun

pub returns-clause-start : goal.returns-clause-start
returns-clause-start c = ap (λ (s : SearchState). s.decided) c.in_ok-search.ensures.search.only_begun

pub returns-clause-up_to : goal.returns-clause-up_to
returns-clause-up_to c =
    let course = c.args.course.now in
    again_up_to course.recorded course.search c.in_ok-search.search course.derivation course.initial course.moves.items c.args.budget c.requires.under_way c.in_ok-search.ensures.search
