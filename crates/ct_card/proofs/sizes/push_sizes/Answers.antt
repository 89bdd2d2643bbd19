use Rattle.std.proofs.Common.{List, sym, subst, arith}
use Rattle.ct_card.specs.declared.size.Size.{Size}
use Rattle.ct_card.specs.Extended.{AreGrownBy}
use Rattle.ct_card.specs.Sizes.{IsSizeBy}
use Rattle.ct_card.proofs.SortRuleLemmas.{grown_pushed}
use Rattle.ct_card.proofs.sizes.push_sizes.Goals as goal

pub loop-s-preserved : goal.loop-s-preserved
loop-s-preserved c =
    let inv = c.loop-s.invariant in
    let old = c.args.sizes.now.items in
    let is = IsSizeBy c.args.several.now c.args.small.now in
    record {
      long = omega (arith, c.in_ok-push.ensures.len, inv.long);
      from = omega (arith, inv.from);
      grown = subst (λ (l : List Size). AreGrownBy is old l) (sym c.in_ok-push.ensures.items) (grown_pushed is old c.loop-s.sizes.items c.size_by.result c.loop-s.s inv.long inv.from inv.grown c.size_by.ensures.value);
    }
