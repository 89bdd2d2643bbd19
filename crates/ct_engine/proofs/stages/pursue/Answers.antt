use Rattle.std.proofs.Common.{refl, subst, sym}
use Rattle.ct_engine.proofs.TaskLemmas.{IsOfOneClosure-then}
use Rattle.ct_engine.proofs.TurnLemmas.{IsTheoryOf-then}
use Rattle.ct_engine.proofs.ListLemmas.{Begins-itself}
use Rattle.ct_engine.proofs.stages.pursue.Goals as goal

pub rounds-init : goal.rounds-init
rounds-init c =
    let theory = c.requires.theory in
    rw c.in_ok-guide_course.ensures.only_guide (record {
      under_way = c.requires.under_way;
      theory = record { declarations = theory.declarations; terms = theory.terms; ready = theory.ready };
      same = record {
        declarations = refl;
        terms = refl;
        asserts = refl;
        variables = refl;
        initial = refl;
        kept = refl;
        lines = Begins-itself c.args.course.now.derivation.rec.lines;
      };
    })

pub returns-in-Some-clause-same : goal.returns-in-Some-clause-same
returns-in-Some-clause-same c = IsOfOneClosure-then c.args.course.now c.rounds.course c.pursue_for.new.course c.rounds.invariant.same c.in_ok-found.ensures.same

pub returns-in-Some-clause-ended : goal.returns-in-Some-clause-ended
returns-in-Some-clause-ended c = rw c.in-Some.is at c.in_ok-found.ensures.ended

pub rounds-preserved : goal.rounds-preserved
rounds-preserved c = record {
  under_way = rw c.in-None.is at c.in_ok-found.ensures.ended;
  theory = c.in_ok-found.ensures.theory;
  same = IsOfOneClosure-then c.args.course.now c.rounds.course c.pursue_for.new.course c.rounds.invariant.same c.in_ok-found.ensures.same;
}
