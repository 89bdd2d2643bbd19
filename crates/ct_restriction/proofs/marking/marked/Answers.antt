use Rattle.std.proofs.Common.{◌∙◌, inl, inr, arith}
use Rattle.std.proofs.lemmas.Option.{slice_get_within}
use Rattle.ct_restriction.specs.Restricted.{IsMarked}
use Rattle.ct_restriction.proofs.MarkLemmas.{under_more, only_more, only_roots}
use Rattle.ct_lemmas.proofs.Each.{AllByRecursion-weaker}
use Rattle.ct_restriction.proofs.marking.marked.Goals as goal

pub loop-i-init : goal.loop-i-init
loop-i-init c = record {
  long = c.mark.ensures.marked.long ∙ c.in_ok-marks.ensures.long ∙ c.len-count.ensures.count;
  rooted = c.mark.ensures.marked.each;
  under = λ t core from has is_marked. absurd (omega (arith, from, c.len-count.ensures.count, slice_get_within c.args.table.now t.0 (core, has.0) has.1));
  only = λ t is_marked. elim (c.mark.ensures.marked.only t is_marked) [
    | inl old ↦ absurd (c.in_ok-marks.ensures.none t old)
    | inr root ↦ only_roots c.args.table.now c.args.roots.now t root
  ];
}

pub loop-i-preserved : goal.loop-i-preserved
loop-i-preserved c =
    let made = c.mark_under.ensures in
    let before = c.loop-i.invariant in
    record {
      long = made.long;
      rooted = AllByRecursion-weaker (IsMarked c.loop-i.marks.items) (IsMarked c.mark_under.new.marks.items) made.stays c.args.roots.now before.rooted;
      under = λ t core from has is_marked.
          under_more c.args.table.now c.loop-i.marks.items c.mark_under.new.marks.items _ made.stays
          (λ u other later there was. before.under u other (omega (arith, later, c.loop-i-test.true)) there was)
          made.under made.above t core (omega (arith, from)) has is_marked;
      only = only_more c.args.table.now c.args.roots.now c.loop-i.marks.items c.mark_under.new.marks.items _ c.len-count.ensures.ordered before.only made.only;
    }
