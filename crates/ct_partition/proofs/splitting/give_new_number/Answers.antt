use Rattle.std.proofs.Common.{◌≡◌, ℕ, ◌<◌, ◌++◌, List, length, All, sym, ap, subst, ◌∙◌, arith}
use Rattle.std.proofs.lemmas.List.Elements.{All-append}
use Rattle.ct_partition.specs.Sets.{IsSaturated}
use Rattle.ct_partition.proofs.SaturatedLemmas.{IsSaturated-append}
use Rattle.ct_partition.proofs.BlockLemmas.{AreRenumbered, AreBlocks-new, KeepAlike-new}
use Rattle.ct_partition.proofs.splitting.give_new_number.Goals as goal

pub returns : goal.returns
returns c =
    let old = c.args.blocks.now.numbers.items in
    let rows = c.args.blocks.now.rows.items in
    let sizes = c.args.blocks.now.sizes.items in
    let new = c.renumber.new.numbers.items in
    let points = c.args.points in
    let before = c.args.changed.now.items in
    let number : c.len.result ≡ length rows = omega (arith, c.len.ensures, c.args.blocks.now.rows.ok.0) in
    let done : AreRenumbered old new points (length rows) = subst (λ (n : ℕ). AreRenumbered old new points n) number (subst (λ (set : List ℕ). AreRenumbered old new set c.len.result) c.as_slice-2.ensures.value (record { long = c.renumber.ensures.long; value = c.renumber.ensures.value })) in
    let changed : c.extend_from_slice.new.self.items ≡ before ++ points = c.in_ok-extend_from_slice.ensures.items ∙ ap (λ (xs : List ℕ). before ++ xs) c.as_slice.ensures.value in
    record {
      blocks = rw (c.in_ok-push-2.ensures.items, c.in_ok-push.ensures.items) (AreBlocks-new old new points sizes rows c.len-2.result c.requires.blocks done c.requires.within);
      long = done.long;
      within = subst (λ (xs : List ℕ). All (λ i. i < length old) xs) (sym changed) (All-append (λ i. i < length old) before points c.requires.changed c.requires.within);
      alike = λ p keep saturated others. (
        rw c.in_ok-push-2.ensures.items (KeepAlike-new p old new points rows (length rows) keep done saturated),
        subst (λ (xs : List ℕ). IsSaturated p xs) (sym changed) (IsSaturated-append p before points others saturated),
      );
    }
