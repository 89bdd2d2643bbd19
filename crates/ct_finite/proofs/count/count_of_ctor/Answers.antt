use Rattle.ct_finite.proofs.StepLemmas.{field_read, product_step, first_sel}
use Rattle.std.proofs.Common.{get_or}
use Rattle.ct_finite.proofs.count.count_of_ctor.Goals as goal

pub loop-sel-preserved : goal.loop-sel-preserved
loop-sel-preserved c =
    let d = c.args.sig.now in
    let sels = c.ctor_sels-sel-items.result.now in
    let i = c.loop-sel.sel-index in
    record {
      bound = c.capped-product.ensures.bound;
      value = product_step d c.args.counts.now sels i c.sel_sort.result c.loop-sel.product c.capped-product.result c.loop-sel-test.true (field_read d (get_or sels i first_sel) c.sel_sort.result c.sel_sort.ensures.value) c.loop-sel.invariant.value c.capped-product.ensures.value;
    }
