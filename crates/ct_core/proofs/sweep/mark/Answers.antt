use Rattle.std.proofs.Common.{◌∙◌, refl, inl, inr, sym, subst, take, arith}
use Rattle.std.specs.List.{Contains}
use Rattle.std.proofs.lemmas.List.{take_all}
use Rattle.std.proofs.lemmas.List.Elements.{All-nil, All-more, All-weaker, All-same, Contains-get_or}
use Rattle.ct_core.specs.Sweep.{IsMarked}
use Rattle.ct_core.proofs.sweep.mark.Goals as goal

pub loop-number-init : goal.loop-number-init
loop-number-init c = record { long = refl; stays = λ n h. h; each = All-nil (IsMarked c.args.marks.now.items); only = λ n h. inl h }

pub loop-number-preserved : goal.loop-number-preserved
loop-number-preserved c = record {
  long = c.mark_one.ensures.long ∙ c.loop-number.invariant.long;
  stays = λ n h. c.mark_one.ensures.stays n (c.loop-number.invariant.stays n h);
  each =
      All-more (IsMarked c.mark_one.new.marks.items) c.args.numbers.now c.loop-number.number-index _ c.loop-number-test.true
      (All-weaker (IsMarked c.loop-number.marks.items) (IsMarked c.mark_one.new.marks.items) c.mark_one.ensures.stays (take c.loop-number.number-index c.args.numbers.now) c.loop-number.invariant.each)
      c.mark_one.ensures.marked;
  only = λ n h. elim (c.mark_one.ensures.only n h) [
    | inl old ↦ c.loop-number.invariant.only n old
    | inr new ↦ inr (subst (Contains c.args.numbers.now) new (Contains-get_or c.args.numbers.now c.loop-number.number-index _ c.loop-number-test.true))
  ];
}

pub returns : goal.returns
returns c = record {
  marked = record {
    long = c.loop-number.invariant.long;
    stays = c.loop-number.invariant.stays;
    each =
        All-same (IsMarked c.loop-number.marks.items) c.args.numbers.now (take c.loop-number.number-index c.args.numbers.now) (sym (take_all c.loop-number.number-index c.args.numbers.now (omega (arith, c.loop-number-test.false)))) c.loop-number.invariant.each;
    only = c.loop-number.invariant.only;
  };
}
