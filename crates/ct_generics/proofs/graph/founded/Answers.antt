use Rattle.std.proofs.Common.{◌≡◌, ◌↔◌, ℕ, ◌++◌, true, take, drop, Bool, false, List, length, replicate, sym, ◌∙◌, ap, subst, arith}
use Rattle.std.proofs.lemmas.List.{length-replicate}
use Rattle.std.proofs.Math.Seq.{take-append_seam}
use Rattle.ct_generics.specs.Marks.{AreMarksSound, marked}
use Rattle.ct_generics.specs.Graph.{IsFoundedAt}
use Rattle.ct_generics.proofs.MarkLemmas.{AreMarksSound-none, founded_exactly}
use Rattle.ct_generics.proofs.graph.founded.Goals as goal

pub mark_in_order-requires : goal.mark_in_order-requires
mark_in_order-requires c =
    let unset : c.as_mut_slice-slots.result.now ≡ replicate (length c.args.graph.now) false = c.as_mut_slice-slots.ensures.value ∙ c.in_ok-marks.ensures.items_if_clones_equal (λ y e. e) in
    record { len = ap length unset ∙ length-replicate (length c.args.graph.now) false }

pub loop-slots-init : goal.loop-slots-init
loop-slots-init c =
    let g = c.args.graph.now in
    let unset : c.as_mut_slice-slots.result.now ≡ replicate (length g) false = c.as_mut_slice-slots.ensures.value ∙ c.in_ok-marks.ensures.items_if_clones_equal (λ y e. e) in
    let long : length c.as_mut_slice-slots.result.now ≡ length g = ap length unset ∙ length-replicate (length g) false in
    record {
      whole = omega (arith, c.mark_in_order.auto.marks, long);
      sound = c.mark_in_order.ensures.sound (subst (λ (ms : List Bool). AreMarksSound g ms) (sym unset) (AreMarksSound-none g (length g)));
    }

pub loop-slots-preserved : goal.loop-slots-preserved
loop-slots-preserved c = record { whole = omega (arith, c.mark_round.auto.marks, c.loop-slots.invariant.whole); sound = c.mark_round.ensures.sound c.loop-slots.invariant.sound }

pub returns-clause-founded : goal.returns-clause-founded
returns-clause-founded c =
    let g = c.args.graph.now in
    let new = c.mark_round.new.marks in
    let rest = drop (length new) c.in_ok-marks.marks.items in
    let len : c.in_ok-marks.marks.len ≡ length g = c.in_ok-marks.ensures.len in
    let same : c.in_ok-marks.marks.len ≡ length new = omega (arith, len, c.mark_round.auto.marks, c.loop-slots.invariant.whole) in
    let back : take c.in_ok-marks.marks.len (new ++ rest) ≡ new = ap (λ n. take n (new ++ rest)) same ∙ take-append_seam new rest in
    subst (λ (ms : List Bool). (i : ℕ) → (marked ms i ≡ true) ↔ IsFoundedAt g i) (sym back) (founded_exactly g new (c.mark_round.ensures.sound c.loop-slots.invariant.sound) c.loop-slots-test.ensures.stable)
