use Rattle.ct_explain.specs.Resting.{HasNumber}
use Rattle.ct_explain.proofs.RestLemmas.{ready_route, ready_paved, inside_forest}
use Rattle.ct_explain.proofs.merges.write_premise.Goals as goal

pub write_way-requires-clause-route : goal.write_way-requires-clause-route
write_way-requires-clause-route c =
    ready_route c.args.classes.now c.args.forest.now.links c.args.bound (HasNumber c.args.done.now) c.args.left c.args.right c.deref.result.now c.in-Some.path.items c.requires.forest c.requires.ready
    (rw c.in-Some.is at c.in_ok-path.ensures.way) c.deref.ensures.value

pub write_way-requires-clause-paved : goal.write_way-requires-clause-paved
write_way-requires-clause-paved c =
    ready_paved c.args.classes.now c.args.forest.now.links c.args.bound (HasNumber c.args.done.now) c.args.left c.args.right c.deref.result.now c.in-Some.path.items c.requires.forest c.requires.ready
    (rw c.in-Some.is at c.in_ok-path.ensures.way) c.deref.ensures.value

pub unreachable-requires : goal.unreachable-requires
unreachable-requires c =
    let none = rw c.in-None.is at c.in_ok-path.ensures.none in
    none c.args.classes.now.merges c.requires.forest.forest (inside_forest c.args.classes.now c.args.forest.now.links c.args.left c.requires.forest c.requires.ready.inside) c.requires.ready.equal
