use Rattle.std.proofs.Common.{◌≡◌, ℕ, ◌<◌, List, [], length, get_or, All, sym, ap, subst, ◌∙◌}
use Rattle.std.proofs.lemmas.List.{take_all, get_or_read}
use Rattle.ct_partition.specs.Sets.{row_at}
use Rattle.ct_partition.specs.Parents.{in_row_of}
use Rattle.ct_partition.proofs.WaitingLemmas.{AreWaiting-none, AreWaiting-more}
use Rattle.ct_partition.proofs.waiting.parents_of.Goals as goal

pub loop-i-init : goal.loop-i-init
loop-i-init c = AreWaiting-none c.args.parents.now c.args.stamp c.args.stamps.now.items c.new-waiting.result.items c.new-waiting.ensures.items c.requires.fresh

pub add-requires : goal.add-requires
add-requires c =
    let parents = c.args.parents.now in
    let i = get_or c.args.changed.now c.loop-i.i-index 0 in
    let inside : i < length parents = c.requires.within c.loop-i.i-index 0 c.loop-i-test.true in
    let row : c.as_slice.result.now ≡ row_at parents i = c.as_slice.ensures.value ∙ get_or_read parents i c.index-parents-i.result inside c.index-parents-i.is [] in
    record {
      within = subst (λ (xs : List ℕ). All (λ j. j < length c.loop-i.stamps.items) xs) (sym row) (subst (λ n. All (λ j. j < n) (row_at parents i)) (sym c.loop-i.invariant.long) (c.requires.rows i [] inside));
      stamps = c.loop-i.invariant.low;
      stamped = c.loop-i.invariant.stamped;
    }

pub loop-i-preserved : goal.loop-i-preserved
loop-i-preserved c =
    let parents = c.args.parents.now in
    let changed = c.args.changed.now in
    let k = c.loop-i.i-index in
    let i = get_or changed k 0 in
    let inside : i < length parents = c.requires.within k 0 c.loop-i-test.true in
    let row : c.as_slice.result.now ≡ row_at parents i = c.as_slice.ensures.value ∙ get_or_read parents i c.index-parents-i.result inside c.index-parents-i.is [] in
    let added = c.in_ok-add.ensures in
    AreWaiting-more parents changed k 0 c.args.stamp c.args.stamps.now.items c.loop-i.stamps.items c.add.new.stamps.items c.loop-i.waiting.items c.add.new.waiting.items c.as_slice.result.now c.loop-i-test.true c.loop-i.invariant row added.long added.stamps added.stamped added.added

pub returns : goal.returns
returns c =
    let done = c.loop-i.invariant in
    let all = take_all c.loop-i.i-index c.args.changed.now c.loop-i-test.false in
    record {
      parents = λ i. done.parents i ∙ ap (λ (xs : List ℕ). in_row_of c.args.parents.now xs i) all;
      stamps = done.low;
      long = done.long;
    }
