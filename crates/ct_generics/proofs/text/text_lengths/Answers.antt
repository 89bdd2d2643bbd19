use Rattle.std.proofs.Common.{arith}
use Rattle.ct_generics.proofs.SubstitutionLemmas.{length-push}
use Rattle.ct_generics.proofs.TextLemmas.{AreCounts-push}
use Rattle.ct_generics.proofs.text.text_lengths.Goals as goal

pub loop-k-preserved : goal.loop-k-preserved
loop-k-preserved c =
    let counts = c.loop-k.counts.items in
    record {
      long = rw c.in_ok-push.ensures.items (omega (arith, c.loop-k.invariant.long, length-push counts c.node_length-count.result));
      counts = λ hs all. rw c.in_ok-push.ensures.items (AreCounts-push hs c.args.table.now counts c.node_length-count.result (c.loop-k.invariant.counts hs all) (λ e stands. c.node_length-count.ensures.count hs e all (rw c.as_slice.ensures.value (c.loop-k.invariant.counts hs all)) (rw (c.as_slice.ensures.value, c.loop-k.invariant.long) c.node-node.ensures.value) (rw c.as_slice.ensures.value stands)));
    }
