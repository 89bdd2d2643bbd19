use Rattle.std.proofs.Common.{get_or, take}
use Rattle.std.proofs.lemmas.List.{take_more}
use Rattle.ct_generics.specs.declared.nodes.ExprId.{ExprId}
use Rattle.ct_generics.proofs.NodeLemmas.{Stay-trans}
use Rattle.ct_generics.proofs.ImageLemmas.{starts-push, only-root}
use Rattle.ct_generics.proofs.reach.insert_all.Goals as goal

pub loop-root-preserved : goal.loop-root-preserved
loop-root-preserved c =
    let i = c.loop-root.root-index in
    let roots = c.args.roots.now in
    let begin = c.args.ids.now in
    let old = c.loop-root.ids in
    let new = c.insert.new.self in
    let none : ExprId = record { 0 = 0 } in
    let root = get_or roots i none in
    record {
      stay = Stay-trans begin old new c.loop-root.invariant.stay c.insert.ensures.stay;
      at = rw (c.in_ok-push.ensures.items, take_more roots i none c.loop-root-test.true) (starts-push old new c.loop-root.starts.items (take i roots) c.in_ok-start.start root c.insert.ensures.stay c.loop-root.invariant.at c.in_ok-start.ensures.at);
      only = rw (take_more roots i none c.loop-root-test.true) (only-root begin old new (take i roots) root c.loop-root.invariant.only c.insert.ensures.only);
    }
