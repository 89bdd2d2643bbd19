use Rattle.std.proofs.Common.{◌<◌, ◌∙◌, length, arith}
use Rattle.ct_lemmas.proofs.Lists.{slice_get-there}
use Rattle.ct_closure.proofs.ListingLemmas.{counted_more}
use Rattle.ct_closure.proofs.listing.count_variables.Goals as goal
use Rattle.ct_closure.proofs.listing.count_variables.Goals.{then-is_variable, else-is_variable}

pub loop-n-preserved : goal.loop-n-preserved
loop-n-preserved c =
    let table = c.args.table.now in
    let n = c.loop-n.n in
    let within : n < length table = omega (arith, c.len-n-end.ensures.count, c.loop-n-test.true) in
    let e = slice_get-there table n within in
    let more = counted_more table n c.loop-n.count c.is_variable.result e.0.0 e.0.1 e.1 c.loop-n.invariant.counted (c.is_variable.ensures.value e.0.0 e.0.1 e.1) in
    elim c.if-is_variable.branch [
      | then-is_variable w ↦ record { counted = w.count-is ∙ more.0 w.if-is_variable.true; few = omega (arith, w.count-is, c.loop-n.invariant.few) }
      | else-is_variable w ↦ record { counted = w.count-is ∙ more.1 w.if-is_variable.false; few = omega (arith, w.count-is, c.loop-n.invariant.few) }
    ]
