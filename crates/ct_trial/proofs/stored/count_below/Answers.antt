use Rattle.std.proofs.Common.{subst, arith}
use Rattle.std.proofs.lemmas.List.Elements.{All-more}
use Rattle.ct_trial.specs.LastModel.{AppliesBelow}
use Rattle.ct_trial.proofs.stored.count_below.Goals as goal

pub loop-count-preserved : goal.loop-count-preserved
loop-count-preserved c = record {
  within = omega (arith, c.if-count-terms.true);
  below =
      All-more (AppliesBelow c.args.funs) c.args.terms.now c.loop-count.count c.index-terms-count.result c.if-count-terms.true c.loop-count.invariant.below
      (subst (AppliesBelow c.args.funs) c.index-terms-count.is (c.is_below.ensures.below c.if-not-is_below.false));
}
