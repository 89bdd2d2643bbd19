use Rattle.std.proofs.Common.{◌≡◌, ◌+◌, ◌≤◌, ◌∙◌, arith}
use Rattle.ct_engine.proofs.TaskLemmas.{IsOfOneTask-itself, IsOfOneTask-then}
use Rattle.ct_engine.proofs.settle.run.Goals as goal

pub decisions-init : goal.decisions-init
decisions-init c = record {
  under_way = c.requires.under_way;
  same = IsOfOneTask-itself c.args.course.now;
  theory = c.requires.theory;
  asked = c.in_ok-asked.ensures.asked;
}

pub returns-in-Some-clause-same : goal.returns-in-Some-clause-same
returns-in-Some-clause-same c = IsOfOneTask-then c.args.course.now c.decisions.course c.advance.new.course c.decisions.invariant.same c.in_ok-ending.ensures.same

pub returns-in-Some-clause-ended : goal.returns-in-Some-clause-ended
returns-in-Some-clause-ended c = rw c.in-Some.is at c.in_ok-ending.ensures.decided

pub decisions-smaller : goal.decisions-smaller
decisions-smaller c =
    let went = rw c.in-None.is at c.in_ok-ending.ensures.decided in
    let counted : c.advance.new.course.search.count ≡ c.decisions.course.search.count + 1 = went.1.counted in
    let allowed : c.advance.new.course.search.count ≤ c.advance.new.course.search.budget = went.1.allowed in
    let budget : c.advance.new.course.search.budget ≡ c.decisions.course.search.budget = c.in_ok-ending.ensures.same.budget in
    omega (arith, counted, allowed, budget)

pub decisions-preserved : goal.decisions-preserved
decisions-preserved c =
    let went = rw c.in-None.is at c.in_ok-ending.ensures.decided in
    record {
      under_way = went.0;
      theory = c.in_ok-ending.ensures.theory;
      asked = c.in_ok-ending.ensures.asked;
      same = IsOfOneTask-then c.args.course.now c.decisions.course c.advance.new.course c.decisions.invariant.same c.in_ok-ending.ensures.same;
    }
