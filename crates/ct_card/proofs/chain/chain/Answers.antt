use Rattle.std.proofs.Common.{◌∙◌}
use Rattle.ct_card.proofs.chain.chain.Goals as goal

pub loop-i-preserved : goal.loop-i-preserved
loop-i-preserved c = record {
  long = c.in_ok-spread.ensures.long ∙ c.loop-i.invariant.long;
  under_way = λ old start. c.in_ok-spread.ensures.under_way old (c.loop-i.invariant.under_way old start);
}
