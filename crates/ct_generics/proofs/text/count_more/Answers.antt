use Rattle.std.proofs.Common.{arith}
use Rattle.ct_generics.proofs.SubstitutionLemmas.{length-push}
use Rattle.ct_generics.proofs.TextLemmas.{AreCounts-push}
use Rattle.ct_generics.proofs.text.count_more.Goals as goal

pub loop-k-preserved : goal.loop-k-preserved
loop-k-preserved c =
    let counts = c.loop-k.counts in
    let table = c.args.table.now in
    let known = c.loop-k.invariant.counted in
    record {
      long = rw c.in_ok-push.ensures.ok (omega (arith, c.loop-k.invariant.long, length-push counts c.node_length-count.result));
      counted = rw c.in_ok-push.ensures.ok (record {
        within = omega (arith, c.loop-k-test.true, c.loop-k.invariant.long, length-push counts c.node_length-count.result, c.len-k-end.ensures.len);
        counted = λ hs all. AreCounts-push hs table counts c.node_length-count.result (known.counted hs all) (λ e stands. c.node_length-count.ensures.count hs e all (rw c.as_slice.ensures.value (known.counted hs all)) (rw (c.as_slice.ensures.value, c.loop-k.invariant.long) c.node-node.ensures.value) (rw c.as_slice.ensures.value stands));
      });
    }
