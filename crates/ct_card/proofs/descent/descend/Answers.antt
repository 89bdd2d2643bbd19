use Rattle.std.proofs.Common.{List, false, sym, subst}
use Rattle.ct_card.specs.declared.descent.Wanted.{Wanted}
use Rattle.ct_card.specs.declared.descent.Passed.{Passed}
use Rattle.ct_card.specs.Descent.{LeadsDown, weight}
use Rattle.ct_card.proofs.DescentLemmas.{down_less, further_down}
use Rattle.ct_card.proofs.descent.descend.Goals as goal

pub loop-down-smaller : goal.loop-down-smaller
loop-down-smaller c =
    let old = c.loop-down.down.wanted in
    let new = c.go_down.new.down.wanted in
    let step = c.in_ok-go_down.ensures.further c.if-branch.true in
    down_less c.args.several.now (weight old) old.sort (weight new) new.sort step.less

pub loop-down-preserved : goal.loop-down-preserved
loop-down-preserved c =
    let d = c.args.sig.now in
    let layers = c.args.layers.now in
    let old = c.loop-down.down in
    let new = c.go_down.new.down in
    let first : Wanted = record { sort = c.args.s; number = c.args.n; turn = false } in
    let step = c.in_ok-go_down.ensures.further c.if-branch.true in
    record {
      down = subst (λ (way : List Passed). LeadsDown d layers first way new.wanted) (sym step.way_is)
          (further_down d layers first old.way.items old.wanted new.wanted step.layer step.set c.loop-down.invariant.down c.loop-down.invariant.infinite step.passed);
      inside = step.inside;
      infinite = step.infinite;
      made = c.in_ok-go_down.ensures.made;
    }
