use Rattle.std.proofs.Common.{◌+◌, ◌∙◌, [], ◌∷◌, ap, arith, length-append}
use Rattle.ct_congr.proofs.SingleLemmas.{AreMarked-more, AreSingleSorts-all}
use Rattle.ct_congr.proofs.singles.single_sorts.Goals as goal

pub loop-s-preserved : goal.loop-s-preserved
loop-s-preserved c =
    let d = c.args.sig.now in
    rw c.in_ok-push.ensures.items (record {
      long = length-append c.loop-s.single.items (c.is_one.result ∷ []) ∙ ap (λ n. n + 1) c.loop-s.invariant.long;
      marked = AreMarked-more d c.loop-s.single.items c.loop-s.s c.size_of.result c.is_one.result c.loop-s.invariant.long c.loop-s.invariant.marked (c.size_of.ensures.exact d c.requires.sizes) (c.unique_sizes.ensures.one d c.loop-s.s) c.is_one.ensures.one;
    })

pub returns : goal.returns
returns c = record { single = AreSingleSorts-all c.args.sig.now c.loop-s.single.items c.loop-s.s c.loop-s.invariant.long (omega (arith, c.sorts-s-end.ensures.count, c.loop-s-test.false)) c.loop-s.invariant.marked }
