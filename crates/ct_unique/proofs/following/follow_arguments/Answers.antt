use Rattle.std.proofs.Common.{◌≡◌, ◌<◌, true, length, get_or, slice_get, sym, ap, subst, ◌∙◌, inl, inr, arith}
use Rattle.std.proofs.lemmas.Bool.{cases_order}
use Rattle.std.proofs.lemmas.Option.{same_Some, slice_get-get_or, slice_get_within}
use Rattle.ct_lemmas.proofs.Pairs.{AllZip-at, AllZip-from, AllZip-one_length}
use Rattle.ct_terms.specs.declared.ids.TermId.{TermId}
use Rattle.ct_rules.specs.Uniqueness.{AreMatched}
use Rattle.ct_congr.specs.State.{AreEqual}
use Rattle.ct_unique.specs.Partition.{in_one_block}
use Rattle.ct_unique.specs.Reached.{IsPairFor, IsPairAmong}
use Rattle.ct_unique.proofs.BlockLemmas.{block_parts}
use Rattle.ct_unique.proofs.FoundLemmas.{IsMore-trans, IsMore-weaker}
use Rattle.ct_unique.proofs.FollowLemmas.{AreMatched-more}
use Rattle.ct_unique.proofs.following.follow_arguments.Goals as goal

abbrev zeroth : TermId
zeroth = record { 0 = 0 }

pub meet-requires-clause-block : goal.meet-requires-clause-block
meet-requires-clause-block c =
    let R = λ (x y : TermId). in_one_block c.args.partition.now x y ≡ true in
    let xs = c.args.xs.now in
    let ys = c.args.ys.now in
    let k = c.loop-place.place in
    let inside : k < length ys = omega (arith, c.loop-place-test.true, AllZip-one_length R xs ys c.requires.blocks) in
    AllZip-at R xs ys k (get_or xs k zeroth) (get_or ys k zeroth) c.requires.blocks (slice_get-get_or xs k zeroth c.loop-place-test.true) (slice_get-get_or ys k zeroth inside)

pub meet-requires-clause-left : goal.meet-requires-clause-left
meet-requires-clause-left c =
    let R = λ (x y : TermId). in_one_block c.args.partition.now x y ≡ true in
    let xs = c.args.xs.now in
    let ys = c.args.ys.now in
    let k = c.loop-place.place in
    let inside : k < length ys = omega (arith, c.loop-place-test.true, AllZip-one_length R xs ys c.requires.blocks) in
    let both = AllZip-at R xs ys k (get_or xs k zeroth) (get_or ys k zeroth) c.requires.blocks (slice_get-get_or xs k zeroth c.loop-place-test.true) (slice_get-get_or ys k zeroth inside) in
    let parts = block_parts c.args.partition.now (get_or xs k zeroth) (get_or ys k zeroth) both in
    omega (arith, parts.0, c.requires.made.long)

pub meet-requires-clause-right : goal.meet-requires-clause-right
meet-requires-clause-right c =
    let R = λ (x y : TermId). in_one_block c.args.partition.now x y ≡ true in
    let xs = c.args.xs.now in
    let ys = c.args.ys.now in
    let k = c.loop-place.place in
    let inside : k < length ys = omega (arith, c.loop-place-test.true, AllZip-one_length R xs ys c.requires.blocks) in
    let both = AllZip-at R xs ys k (get_or xs k zeroth) (get_or ys k zeroth) c.requires.blocks (slice_get-get_or xs k zeroth c.loop-place-test.true) (slice_get-get_or ys k zeroth inside) in
    let parts = block_parts c.args.partition.now (get_or xs k zeroth) (get_or ys k zeroth) both in
    omega (arith, parts.1, c.requires.made.long)

pub loop-place-preserved : goal.loop-place-preserved
loop-place-preserved c =
    let state = c.args.classes.now in
    let known = AreEqual state in
    let R = λ (x y : TermId). in_one_block c.args.partition.now x y ≡ true in
    let xs = c.args.xs.now in
    let ys = c.args.ys.now in
    let i = c.loop-place.place in
    let inside : i < length ys = omega (arith, c.loop-place-test.true, AllZip-one_length R xs ys c.requires.blocks) in
    let before = c.loop-place.found in
    let after = c.meet.new.found in
    let new = c.in_ok-meet.ensures in
    let x = get_or xs i zeroth in
    let y = get_or ys i zeroth in
    let one_more = IsMore-weaker state c.args.partition.now (IsPairFor state x y) (IsPairAmong state xs ys) before.places before.pairs.items after.places after.pairs.items
    (λ e needed. record { place = i; x = x; y = y; left_at = slice_get-get_or xs i zeroth c.loop-place-test.true; right_at = slice_get-get_or ys i zeroth inside; needed = needed })
    new.more in
    record {
      more = IsMore-trans state c.args.partition.now (IsPairAmong state xs ys) c.args.found.now.places c.args.found.now.pairs.items before.places before.pairs.items after.places after.pairs.items c.loop-place.invariant.more one_more;
      matched = λ k x y soon at_x at_y. elim (cases_order k i) [
        | inl e ↦
            let is_x : get_or xs i zeroth ≡ x = same_Some (get_or xs i zeroth) x (sym (slice_get-get_or xs i zeroth c.loop-place-test.true) ∙ ap (slice_get xs) (sym e) ∙ at_x) in
            let is_y : get_or ys i zeroth ≡ y = same_Some (get_or ys i zeroth) y (sym (slice_get-get_or ys i zeroth inside) ∙ ap (slice_get ys) (sym e) ∙ at_y) in
            subst (λ (q : TermId). AreMatched known after.pairs.items x q) is_y (subst (λ (q : TermId). AreMatched known after.pairs.items q (get_or ys i zeroth)) is_x new.matched)
        | inr h ↦ elim h [
          | inl less ↦ AreMatched-more known before.pairs.items after.pairs.items new.more.rest new.more.grown x y (c.loop-place.invariant.matched k x y less at_x at_y)
          | inr greater ↦ absurd (omega (arith, soon, greater))
        ]
      ];
    }

pub returns-clause-matched : goal.returns-clause-matched
returns-clause-matched c =
    let R = λ (x y : TermId). in_one_block c.args.partition.now x y ≡ true in
    let xs = c.args.xs.now in
    let ys = c.args.ys.now in
    AllZip-from (AreMatched (AreEqual c.args.classes.now) c.loop-place.found.pairs.items) xs ys (AllZip-one_length R xs ys c.requires.blocks)
    (λ k x y at_x at_y. let inside = slice_get_within xs k x at_x in c.loop-place.invariant.matched k x y (omega (arith, inside, c.loop-place-test.false)) at_x at_y)
