use Rattle.std.proofs.Common.{◌≡◌, ℕ, ◌&&◌, List, [], nat_eq, ap₂, subst, ◌∙◌}
use Rattle.std.proofs.lemmas.List.{get_or_read}
use Rattle.ct_partition.specs.Partition.{block_at}
use Rattle.ct_partition.specs.Sets.{has, row_at}
use Rattle.ct_partition.proofs.BlockLemmas.{AreRenumbered, AreRenumbered-again, AreBlocks-rest, KeepAlike-rest, IsSaturated-rest, rest_within}
use Rattle.ct_partition.proofs.splitting.take_rest.Goals as goal

pub returns : goal.returns
returns c =
    let old = c.args.blocks.now.numbers.items in
    let rows = c.args.blocks.now.rows.items in
    let sizes = c.args.blocks.now.sizes.items in
    let apart = c.renumber.new.numbers.items in
    let new = c.renumber-2.new.numbers.items in
    let group = c.args.group in
    let number = c.args.number in
    let rest = c.in_ok-rest.rest in
    let other = c.len.result in
    let low = c.requires.number in
    let one : AreRenumbered old apart group other = subst (λ (set : List ℕ). AreRenumbered old apart set other) c.as_slice.ensures.value (record { long = c.renumber.ensures.long; value = c.renumber.ensures.value }) in
    let two : AreRenumbered apart new group number = subst (λ (set : List ℕ). AreRenumbered apart new set number) c.as_slice-3.ensures.value (record { long = c.renumber-2.ensures.long; value = c.renumber-2.ensures.value }) in
    let done = AreRenumbered-again old apart new group other number one two in
    let row : c.as_slice-2.result.now ≡ row_at rows number = c.as_slice-2.ensures.value ∙ get_or_read rows number c.index.result.now low c.index.ensures [] in
    let value : (i : ℕ) → has rest i ≡ (has (row_at rows number) i && nat_eq (block_at apart i) number) = λ i.
    c.in_ok-rest.ensures.value i ∙ ap₂ (λ (xs ys : List ℕ). has xs i && nat_eq (block_at ys i) number) row c.deref.ensures.value in
    record {
      blocks = AreBlocks-rest old new group sizes rows number c.requires.blocks done low c.requires.within;
      long = done.long;
      within = rest_within old apart rest rows number c.requires.blocks.within low value;
      alike = λ p keep saturated. (
        KeepAlike-rest p old new group rows number keep done saturated,
        IsSaturated-rest p old apart group rest rows number other keep one saturated low value,
      );
    }
