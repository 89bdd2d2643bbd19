use Rattle.std.proofs.Common.{◌+◌, List, take, get_or, sym, subst}
use Rattle.std.specs.List.{AllZip}
use Rattle.std.proofs.lemmas.Option.{slice_get-get_or}
use Rattle.ct_values.specs.declared.node.NodeId.{NodeId}
use Rattle.ct_readback.specs.Placed.{StandsAt}
use Rattle.ct_readback.proofs.PlaceSteps.{taken_more}
use Rattle.ct_readback.proofs.placing.children_moved.Goals as goal

abbrev zeroth : NodeId
zeroth = record { 0 = 0 }

pub loop-child-preserved : goal.loop-child-preserved
loop-child-preserved c =
    let children = c.args.children.now in
    let places = c.args.places.now in
    let i = c.loop-child.child-index in
    let child = get_or children i zeroth in
    let at = get_or places child.0 zeroth in
    subst (λ (list : List NodeId). AllZip (StandsAt places) list (take (i + 1) children)) (sym c.in_ok-push.ensures.items)
    (taken_more (StandsAt places) children i child c.loop-child.all.items at (slice_get-get_or children i zeroth c.loop-child-test.true) c.loop-child.invariant
    (slice_get-get_or places child.0 zeroth (c.requires.within i zeroth c.loop-child-test.true)))
