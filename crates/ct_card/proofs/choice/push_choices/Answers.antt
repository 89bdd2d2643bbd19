use Rattle.std.proofs.Common.{List, sym, subst, arith}
use Rattle.ct_sorts.specs.declared.ids.CtorId.{CtorId}
use Rattle.ct_card.specs.Extended.{AreGrownBy, IsChosen}
use Rattle.ct_card.proofs.SortRuleLemmas.{grown_pushed}
use Rattle.ct_card.proofs.choice.push_choices.Goals as goal

pub loop-s-preserved : goal.loop-s-preserved
loop-s-preserved c =
    let inv = c.loop-s.invariant in
    let old = c.args.ctors.now.items in
    let now = c.loop-s.ctors.items in
    record {
      long = omega (arith, c.in_ok-push.ensures.len, inv.long);
      from = omega (arith, inv.from);
      grown = subst (λ (l : List CtorId). AreGrownBy (IsChosen c.args.sig.now c.args.ranks.now) old l) (sym c.in_ok-push.ensures.items)
          (grown_pushed (IsChosen c.args.sig.now c.args.ranks.now) old now c.in_ok-choice.field-0 c.loop-s.s inv.long inv.from inv.grown c.in_ok-choice.ensures.chosen);
    }
