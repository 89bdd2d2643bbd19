use Rattle.ct_finite.proofs.ChoosingLemmas.{sort_step}
use Rattle.ct_finite.proofs.choosing.choices_for.Goals as goal

pub loop-s-preserved : goal.loop-s-preserved
loop-s-preserved c =
    record {
      bound = c.capped-product.ensures.bound;
      value = sort_step c.args.counts.now c.args.sorts.now c.loop-s.s-index c.loop-s.product c.capped-product.result c.loop-s-test.true c.loop-s.invariant.value c.capped-product.ensures.value;
    }
