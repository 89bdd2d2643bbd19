use Rattle.std.proofs.Common.{List, sym, subst, arith}
use Rattle.ct_card.specs.declared.departure.Layer.{Layer}
use Rattle.ct_card.specs.Extended.{AreGrownBy, IsLayerOf}
use Rattle.ct_card.proofs.SortRuleLemmas.{grown_pushed}
use Rattle.ct_card.proofs.layers.push_layers.Goals as goal

pub loop-s-preserved : goal.loop-s-preserved
loop-s-preserved c =
    let inv = c.loop-s.invariant in
    let old = c.args.all.now.items in
    let now = c.loop-s.all.items in
    record {
      long = omega (arith, c.in_ok-push.ensures.len, inv.long);
      from = omega (arith, inv.from);
      grown = subst (λ (l : List Layer). AreGrownBy (IsLayerOf c.args.sig.now c.args.several.now) old l) (sym c.in_ok-push.ensures.items)
          (grown_pushed (IsLayerOf c.args.sig.now c.args.several.now) old now c.in_ok-layer.field-0 c.loop-s.s inv.long inv.from inv.grown c.in_ok-layer.ensures.layer);
    }
