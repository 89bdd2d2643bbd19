use Rattle.std.proofs.Common.{sym, subst}
use Rattle.std.specs.List.{AllZip}
use Rattle.ct_sorts.specs.declared.ids.CtorId.{CtorId}
use Rattle.ct_terms.specs.declared.term.Core.TheVariants.{Con}
use Rattle.ct_terms.specs.Terms.{Has}
use Rattle.ct_rules.specs.Uniqueness.{AreMatched}
use Rattle.ct_congr.specs.State.{AreEqual}
use Rattle.ct_unique.specs.Found.{IsMore}
use Rattle.ct_unique.specs.Reached.{IsPairAmong, IsArgumentPair}
use Rattle.ct_unique.proofs.FoundLemmas.{IsMore-weaker}
use Rattle.ct_unique.proofs.FollowLemmas.{open_ctor, open_rows}
use Rattle.ct_unique.proofs.following.follow.Goals as goal

pub follow_arguments-requires-clause-blocks : goal.follow_arguments-requires-clause-blocks
follow_arguments-requires-clause-blocks c =
    let state = c.args.classes.now in
    let pair = c.args.pair in
    let xs = c.in-Con.xs in
    let ys = c.in-Con-core.ys in
    let left : Has state.terms (Con c.in-Con.field-0 xs) pair.left.0 = rw (c.in-Con.is, c.table-table.ensures.value) at c.core.ensures.value in
    let right : Has state.terms (Con c.in-Con-core.field-0 ys) pair.right.0 = rw (c.in-Con-core.is, c.table-table.ensures.value) at c.core-2.ensures.value in
    rw (c.as_slice.ensures.value, c.as_slice-2.ensures.value)
    (open_rows state c.args.partition.now c.requires.made c.requires.quiet c.table-table.ensures.sorted c.merges.ensures.long pair.left pair.right c.in-Con.field-0 c.in-Con-core.field-0 xs ys left right c.requires.opens.same)

pub returns-clause-more : goal.returns-clause-more
returns-clause-more c =
    let state = c.args.classes.now in
    let blocks = c.args.partition.now in
    let pair = c.args.pair in
    let xs = c.in-Con.xs in
    let ys = c.in-Con-core.ys in
    let left : Has state.terms (Con c.in-Con.field-0 xs) pair.left.0 = rw (c.in-Con.is, c.table-table.ensures.value) at c.core.ensures.value in
    let right : Has state.terms (Con c.in-Con-core.field-0 ys) pair.right.0 = rw (c.in-Con-core.is, c.table-table.ensures.value) at c.core-2.ensures.value in
    let one = open_ctor state blocks c.requires.made c.requires.quiet c.table-table.ensures.sorted c.merges.ensures.long pair.left pair.right c.in-Con.field-0 c.in-Con-core.field-0 xs ys left right c.requires.opens.same in
    let old = c.args.found.now in
    let new = c.follow_arguments.new.found in
    let more : IsMore state blocks (IsPairAmong state xs ys) old.places old.pairs.items new.places new.pairs.items = rw (c.as_slice.ensures.value, c.as_slice-2.ensures.value) at c.in_ok-follow_arguments.ensures.more in
    IsMore-weaker state blocks (IsPairAmong state xs ys) (IsArgumentPair state pair) old.places old.pairs.items new.places new.pairs.items
    (λ e among. record {
      ctor = c.in-Con.field-0;
      xs = xs;
      ys = ys;
      left_stands = left;
      right_stands = subst (λ (q : CtorId). Has state.terms (Con q ys) pair.right.0) (sym one) right;
      among = among;
    })
    more

pub returns-clause-matched : goal.returns-clause-matched
returns-clause-matched c =
    let state = c.args.classes.now in
    let pair = c.args.pair in
    let xs = c.in-Con.xs in
    let ys = c.in-Con-core.ys in
    let left : Has state.terms (Con c.in-Con.field-0 xs) pair.left.0 = rw (c.in-Con.is, c.table-table.ensures.value) at c.core.ensures.value in
    let right : Has state.terms (Con c.in-Con-core.field-0 ys) pair.right.0 = rw (c.in-Con-core.is, c.table-table.ensures.value) at c.core-2.ensures.value in
    let one = open_ctor state c.args.partition.now c.requires.made c.requires.quiet c.table-table.ensures.sorted c.merges.ensures.long pair.left pair.right c.in-Con.field-0 c.in-Con-core.field-0 xs ys left right c.requires.opens.same in
    let each : AllZip (AreMatched (AreEqual state) c.follow_arguments.new.found.pairs.items) xs ys = rw (c.as_slice.ensures.value, c.as_slice-2.ensures.value) at c.in_ok-follow_arguments.ensures.matched in
    record {
      ctor = c.in-Con.field-0;
      xs = xs;
      ys = ys;
      left_stands = left;
      right_stands = subst (λ (q : CtorId). Has state.terms (Con q ys) pair.right.0) (sym one) right;
      arguments = each;
    }
