use Rattle.std.proofs.Common.{List, Bool, subst, arith}
use Rattle.ct_closure.specs.Steps.{IsMarked}
use Rattle.ct_closure.proofs.WayLemmas.{pushed_was}
use Rattle.ct_closure.proofs.further.no_marks.Goals as goal

pub loop-marks-preserved : goal.loop-marks-preserved
loop-marks-preserved c = record {
  few = omega (arith, c.in_ok-push.ensures.len, c.loop-marks-test.true, c.loop-marks.marks.ok.0);
  none = λ t marked. c.loop-marks.invariant.none t (pushed_was c.loop-marks.marks.items t (subst (λ (l : List Bool). IsMarked l t) c.in_ok-push.ensures.items marked));
}
