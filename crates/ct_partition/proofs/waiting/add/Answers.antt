use Rattle.std.proofs.Common.{◌≡◌, ℕ, ◌<◌, ◌||◌, List, length, get_or, slice_index, sym, ap, subst, ◌∙◌}
use Rattle.std.proofs.lemmas.List.{take_all}
use Rattle.ct_partition.specs.Sets.{has}
use Rattle.ct_partition.proofs.RefineLemmas.{block_read}
use Rattle.ct_partition.proofs.WaitingLemmas.{AreStamped-none, AreStamped-old, AreStamped-new}
use Rattle.ct_partition.proofs.waiting.add.Goals as goal
use Rattle.ct_partition.proofs.waiting.add.Goals.{then-index-stamp+in_ok-push, else-index-stamp}

pub loop-i-init : goal.loop-i-init
loop-i-init c = AreStamped-none c.args.stamps.now.items c.args.waiting.now.items c.args.stamp c.requires.stamps c.requires.stamped

pub loop-i-preserved : goal.loop-i-preserved
loop-i-preserved c =
    let old = c.args.stamps.now.items in
    let before = c.args.waiting.now.items in
    let points = c.args.points.now in
    let stamps = c.loop-i.stamps.items in
    let waiting = c.loop-i.waiting.items in
    let k = c.loop-i.i-index in
    let i = get_or points k 0 in
    let inside : i < length stamps = subst (λ n. i < n) (sym c.loop-i.invariant.long) (c.requires.within k 0 c.loop-i-test.true) in
    let read : slice_index stamps i ≡ c.index.result.now = block_read stamps i c.index.result.now inside c.index.ensures in
    elim c.if-index-stamp.branch [
      | then-index-stamp+in_ok-push w ↦
          rw (ap (λ v. v.items) w.stamps-is, ap (λ v. v.items) w.waiting-is, w.in_ok-push.ensures.items) (AreStamped-new old before points k 0 c.args.stamp stamps waiting c.loop-i-test.true inside c.loop-i.invariant)
      | else-index-stamp w ↦
          rw (ap (λ v. v.items) w.stamps-is, ap (λ v. v.items) w.waiting-is) (AreStamped-old old before points k 0 c.args.stamp stamps waiting c.loop-i-test.true inside (read ∙ w.if-index-stamp.false) c.loop-i.invariant)
    ]

pub returns : goal.returns
returns c =
    let done = c.loop-i.invariant in
    let all = take_all c.loop-i.i-index c.args.points.now c.loop-i-test.false in
    record {
      long = done.long;
      stamps = done.low;
      stamped = done.stamped;
      added = λ i. done.added i ∙ ap (λ (xs : List ℕ). has c.args.waiting.now.items i || has xs i) all;
    }
