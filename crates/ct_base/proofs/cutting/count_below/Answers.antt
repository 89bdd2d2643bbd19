use Rattle.std.proofs.Common.{arith}
use Rattle.std.proofs.lemmas.List.Elements.{All-more}
use Rattle.ct_base.specs.Cutting.{IsBelow}
use Rattle.ct_base.proofs.cutting.count_below.Goals as goal

pub loop-count-preserved : goal.loop-count-preserved
loop-count-preserved c = record {
  within = omega (arith, c.loop-count-test.true);
  below = All-more (IsBelow c.args.mark.now) c.args.stages.now c.loop-count.count c.index-stages-count.result c.loop-count-test.true c.loop-count.invariant.below
      (c.is_below.ensures.below c.if-not-is_below.false);
}
