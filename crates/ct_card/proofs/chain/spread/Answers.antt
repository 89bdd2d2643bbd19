use Rattle.std.proofs.Common.{◌∙◌}
use Rattle.ct_card.proofs.chain.spread.Goals as goal

pub loop-k-preserved : goal.loop-k-preserved
loop-k-preserved c = record {
  long = c.in_ok-fire_last.ensures.long ∙ c.loop-k.invariant.long;
  under_way = λ old start. c.in_ok-fire_last.ensures.under_way old (c.loop-k.invariant.under_way old start);
}
