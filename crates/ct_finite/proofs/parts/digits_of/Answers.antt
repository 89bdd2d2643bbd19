use Rattle.std.proofs.Common.{get_or}
use Rattle.ct_finite.proofs.PartLemmas.{digit_step}
use Rattle.ct_finite.proofs.StepLemmas.{field_read, first_sel}
use Rattle.ct_finite.proofs.parts.digits_of.Goals as goal

pub loop-sel-preserved : goal.loop-sel-preserved
loop-sel-preserved c =
    let d = c.args.sig.now in
    let sels = c.ctor_sels-sels.result.now in
    let i = c.loop-sel.sel-index in
    let step = digit_step d c.args.counts.now sels i c.sel_sort.result c.loop-sel.rest c.loop-sel.left c.loop-sel.numbers.items _ c.loop-sel-test.true
    (field_read d (get_or sels i first_sel) c.sel_sort.result c.sel_sort.ensures.value) c.loop-sel.invariant.rest c.loop-sel.invariant.some c.loop-sel.invariant.value in
    record { rest = step.2; some = step.1; value = rw c.in_ok-push.ensures.items step.3 }
