use Rattle.std.proofs.Common.{refl, ◌∙◌}
use Rattle.ct_engine.proofs.TaskLemmas.{IsOfOneTask-itself, IsOfOneTask-then}
use Rattle.ct_engine.proofs.TurnLemmas.{IsCounted-since}
use Rattle.ct_engine.proofs.settle.advance.Goals as goal

pub conflicts-init : goal.conflicts-init
conflicts-init c = record { under_way = c.requires.under_way; same = IsOfOneTask-itself c.args.course.now; counted = refl; theory = c.requires.theory; asked = c.requires.asked }

pub returns-in-Ended-clause-same : goal.returns-in-Ended-clause-same
returns-in-Ended-clause-same c = IsOfOneTask-then c.args.course.now c.conflicts.course c.take_turn.new.course c.conflicts.invariant.same c.in_ok-ending.ensures.same

pub returns-in-Ended-clause-decided : goal.returns-in-Ended-clause-decided
returns-in-Ended-clause-decided c = rw c.in-Ended.is at c.in_ok-ending.ensures.turn

pub returns-in-Decided-clause-same : goal.returns-in-Decided-clause-same
returns-in-Decided-clause-same c = IsOfOneTask-then c.args.course.now c.conflicts.course c.take_turn.new.course c.conflicts.invariant.same c.in_ok-ending.ensures.same

pub returns-in-Decided-clause-decided : goal.returns-in-Decided-clause-decided
returns-in-Decided-clause-decided c =
    let went = rw c.in-Decided.is at c.in_ok-ending.ensures.turn in
    (went.0, IsCounted-since c.args.course.now.search c.conflicts.course.search c.take_turn.new.course.search c.conflicts.invariant.counted went.1)

pub conflicts-smaller : goal.conflicts-smaller
conflicts-smaller c =
    let went = rw c.in-Learned.is at c.in_ok-ending.ensures.turn in
    went.1.fewer

pub conflicts-preserved : goal.conflicts-preserved
conflicts-preserved c =
    let went = rw c.in-Learned.is at c.in_ok-ending.ensures.turn in
    record {
      under_way = went.0;
      theory = c.in_ok-ending.ensures.theory;
      asked = c.in_ok-ending.ensures.asked;
      same = IsOfOneTask-then c.args.course.now c.conflicts.course c.take_turn.new.course c.conflicts.invariant.same c.in_ok-ending.ensures.same;
      counted = went.1.counted ∙ c.conflicts.invariant.counted;
    }
