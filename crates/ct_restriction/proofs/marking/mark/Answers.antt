use Rattle.std.proofs.Common.{◌∙◌, refl, inl, inr, sym, subst, take, arith}
use Rattle.std.specs.List.{Contains}
use Rattle.std.proofs.lemmas.List.{take_all}
use Rattle.std.proofs.lemmas.List.Elements.{All-nil, All-more, All-weaker, All-same, recursion_from_All, Contains-get_or}
use Rattle.ct_restriction.specs.Restricted.{IsMarked}
use Rattle.ct_restriction.proofs.marking.mark.Goals as goal

pub loop-t-init : goal.loop-t-init
loop-t-init c = record { long = refl; stays = λ u h. h; each = All-nil (IsMarked c.args.marks.now.items); only = λ u h. inl h }

pub loop-t-preserved : goal.loop-t-preserved
loop-t-preserved c = record {
  long = c.mark_one.ensures.long ∙ c.loop-t.invariant.long;
  stays = λ u h. c.mark_one.ensures.stays u (c.loop-t.invariant.stays u h);
  each =
      All-more (IsMarked c.mark_one.new.marks.items) c.args.terms.now c.loop-t.t-index _ c.loop-t-test.true
      (All-weaker (IsMarked c.loop-t.marks.items) (IsMarked c.mark_one.new.marks.items) c.mark_one.ensures.stays (take c.loop-t.t-index c.args.terms.now) c.loop-t.invariant.each)
      c.mark_one.ensures.marked;
  only = λ u h. elim (c.mark_one.ensures.only u h) [
    | inl old ↦ c.loop-t.invariant.only u old
    | inr new ↦ inr (subst (Contains c.args.terms.now) new (Contains-get_or c.args.terms.now c.loop-t.t-index _ c.loop-t-test.true))
  ];
}

pub returns : goal.returns
returns c = record {
  marked = record {
    long = c.loop-t.invariant.long;
    stays = c.loop-t.invariant.stays;
    each =
        recursion_from_All (IsMarked c.loop-t.marks.items) c.args.terms.now
        (All-same (IsMarked c.loop-t.marks.items) c.args.terms.now (take c.loop-t.t-index c.args.terms.now) (sym (take_all c.loop-t.t-index c.args.terms.now (omega (arith, c.loop-t-test.false)))) c.loop-t.invariant.each);
    only = c.loop-t.invariant.only;
  };
}
