use Rattle.std.proofs.Common.{List, ℕ, refl, sym, ◌∙◌, subst, arith}
use Rattle.ct_card.specs.Extended.{AreKept}
use Rattle.ct_card.specs.Rules.{IsOrder}
use Rattle.ct_card.proofs.CutLemmas.{kept_start, kept_order, kept_cut}
use Rattle.ct_card.proofs.sizes.keep_below.Goals as goal

pub loop-i-init : goal.loop-i-init
loop-i-init c = record {
  few = omega arith;
  long = refl;
  kept = λ few is. subst (λ (l : List ℕ). AreKept c.args.count c.args.ranks.now.items c.args.order.now.items l c.args.order.now.items 0 0) (sym c.truncate.ensures.items) (kept_start c.args.count c.args.ranks.now.items c.args.order.now.items few);
}

pub loop-i-preserved : goal.loop-i-preserved
loop-i-preserved c = record {
  few = c.keep-kept.ensures.few;
  long = c.keep-kept.ensures.long ∙ c.loop-i.invariant.long;
  kept = λ few is. c.keep-kept.ensures.kept c.args.count c.args.ranks.now.items c.args.order.now.items is (c.loop-i.invariant.kept few is);
}

pub returns-clause-cut : goal.returns-clause-cut
returns-clause-cut c = λ few is.
    kept_cut c.args.count c.args.ranks.now.items c.args.order.now.items c.loop-i.ranks.items c.loop-i.order.items c.loop-i.i c.loop-i.kept is (omega (arith, c.loop-i-test.false, c.len-i-end.ensures, c.args.order.now.ok.0)) (c.loop-i.invariant.kept few is)

pub returns-clause-order : goal.returns-clause-order
returns-clause-order c = λ few is.
    subst (λ (l : List ℕ). IsOrder c.loop-i.ranks.items l) (sym c.truncate-2.ensures.items)
    (kept_order c.args.count c.args.ranks.now.items c.args.order.now.items c.loop-i.ranks.items c.loop-i.order.items c.loop-i.i c.loop-i.kept is (omega (arith, c.loop-i-test.false, c.len-i-end.ensures, c.args.order.now.ok.0)) (c.loop-i.invariant.kept few is))
