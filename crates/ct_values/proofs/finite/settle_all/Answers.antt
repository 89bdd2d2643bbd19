use Rattle.std.proofs.Common.{◌≡◌, ◌+◌, Bool, get_or, take, sym, subst, arith, take_all}
use Rattle.std.proofs.lemmas.List.Elements.{All-more}
use Rattle.ct_values.specs.declared.node.NodeId.{NodeId}
use Rattle.ct_values.proofs.FiniteLemmas.{HasPassed, HasPassed-more, AreTried-passed}
use Rattle.ct_values.proofs.finite.settle_all.Goals as goal

pub loop-n-preserved : goal.loop-n-preserved
loop-n-preserved c =
    let g = c.args.graph.now in
    let before = c.args.classes.now.items in
    let now = c.settle.new.classes.items in
    let order = c.args.order.now in
    let first : NodeId = record { 0 = 0 } in
    let n = get_or order c.loop-n.n-index first in
    let next = take (c.loop-n.n-index + 1) order in
    let done = c.in_ok-done.ensures in (
      done.settling,
      subst (λ (more : Bool). HasPassed g before now next more) (sym c.either-more.ensures.value)
          (HasPassed-more g before c.loop-n.classes.items now (take c.loop-n.n-index order) next n c.loop-n.more c.in_ok-done.done (λ P all here. All-more P order c.loop-n.n-index first c.loop-n-test.true all here) c.loop-n.invariant.1 done.done),
    )

pub returns-clause-more : goal.returns-clause-more
returns-clause-more c =
    let g = c.args.graph.now in
    let order = c.args.order.now in
    let done : take c.loop-n.n-index order ≡ order = take_all c.loop-n.n-index order (omega arith) in
    AreTried-passed g c.args.classes.now.items c.loop-n.classes.items order c.loop-n.more c.requires.each (subst (λ nodes. HasPassed g c.args.classes.now.items c.loop-n.classes.items nodes c.loop-n.more) done c.loop-n.invariant.1)
