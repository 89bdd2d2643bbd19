use Rattle.std.proofs.Common.{length, Some, sym, ap, subst, ◌∙◌, arith}
use Rattle.std.specs.List.{AllZip}
use Rattle.std.proofs.lemmas.Option.{slice_get_within, slice_get-get_or}
use Rattle.ct_values.specs.Graph.{Nodes}
use Rattle.ct_values.specs.WellFormed.{IsWellFormedGraph}
use Rattle.ct_readback.specs.Placed.{IsMoved, ArePlaces, IsPlacedRoot}
use Rattle.ct_readback.proofs.PlacedLemmas.{left_each, left_only, left_within, left_once, left_before, placed_below, placed_formed, placed_root}
use Rattle.ct_readback.proofs.placing.append_in_order.Goals as goal

pub append-requires : goal.append-requires
append-requires c =
    let d = c.args.sig.now in
    let h = c.args.h.now in
    let g = c.args.graph.now in
    let sorts = c.args.sorts.now in
    let points = c.args.points.now in
    let places = c.in_ok-places.places.items in
    let nodes = c.in_ok-nodes.nodes.items in
    let upper = c.requires.upper in
    let o = c.requires.order in
    let placed : ArePlaces (length g) (length h) points places = rw (c.len-base.ensures.count, c.len.ensures.count) at c.in_ok-places.ensures.places in
    let moved : AllZip (IsMoved h places) points nodes = rw c.deref.ensures.value at c.in_ok-nodes.ensures.moved in
    record { below = placed_below d h g sorts points places nodes upper moved placed (left_each d h sorts o.0 o.1 points upper o.2 o.3 o.4) (left_only d h sorts o.0 o.1 points upper o.2 o.3 o.4) }

pub returns-clause-well_formed : goal.returns-clause-well_formed
returns-clause-well_formed c =
    let d = c.args.sig.now in
    let h = c.args.h.now in
    let g = c.args.graph.now in
    let sorts = c.args.sorts.now in
    let points = c.args.points.now in
    let places = c.in_ok-places.places.items in
    let nodes = c.in_ok-nodes.nodes.items in
    let upper = c.requires.upper in
    let o = c.requires.order in
    let placed : ArePlaces (length g) (length h) points places = rw (c.len-base.ensures.count, c.len.ensures.count) at c.in_ok-places.ensures.places in
    let moved : AllZip (IsMoved h places) points nodes = rw c.deref.ensures.value at c.in_ok-nodes.ensures.moved in
    subst (λ (k : Nodes). IsWellFormedGraph d k) (sym c.in_ok-append.ensures.ok)
    (placed_formed d h g sorts points places nodes upper moved placed (left_each d h sorts o.0 o.1 points upper o.2 o.3 o.4) (left_only d h sorts o.0 o.1 points upper o.2 o.3 o.4) o.0 o.2
    (left_before d h sorts o.0 o.1 points upper o.2 o.3 o.4) c.requires.well_formed)

pub returns-clause-placed : goal.returns-clause-placed
returns-clause-placed c =
    let d = c.args.sig.now in
    let h = c.args.h.now in
    let g = c.args.graph.now in
    let sorts = c.args.sorts.now in
    let points = c.args.points.now in
    let places = c.in_ok-places.places.items in
    let nodes = c.in_ok-nodes.nodes.items in
    let upper = c.requires.upper in
    let o = c.requires.order in
    let placed : ArePlaces (length g) (length h) points places = rw (c.len-base.ensures.count, c.len.ensures.count) at c.in_ok-places.ensures.places in
    let moved : AllZip (IsMoved h places) points nodes = rw c.deref.ensures.value at c.in_ok-nodes.ensures.moved in
    let root = upper.root in
    let within = slice_get_within sorts 0 (Some root.0) root.1 in
    let long = upper.long in
    let first = slice_get-get_or places 0 c.index.result.now (omega (arith, placed.long, within, long)) ∙ ap Some (sym c.index.ensures) in
    subst (λ (k : Nodes). IsPlacedRoot d h k c.index.result.now) (sym c.in_ok-append.ensures.ok)
    (placed_root d h g sorts points places nodes upper moved placed (left_each d h sorts o.0 o.1 points upper o.2 o.3 o.4) (left_only d h sorts o.0 o.1 points upper o.2 o.3 o.4) c.index.result.now root first)

pub places_of-requires-clause-within : goal.places_of-requires-clause-within
places_of-requires-clause-within c = λ k other inside.
    let d = c.args.sig.now in
    let h = c.args.h.now in
    let sorts = c.args.sorts.now in
    let points = c.args.points.now in
    let upper = c.requires.upper in
    let o = c.requires.order in
    let within = left_within d h sorts o.0 o.1 points upper o.2 o.3 o.4 k other inside in
    omega (arith, within, c.len.ensures.count)

pub places_of-requires-clause-once : goal.places_of-requires-clause-once
places_of-requires-clause-once c = λ i j point at_i at_j.
    let d = c.args.sig.now in
    let h = c.args.h.now in
    let sorts = c.args.sorts.now in
    let points = c.args.points.now in
    let upper = c.requires.upper in
    let o = c.requires.order in
    left_once d h sorts o.0 o.1 points upper o.2 o.3 o.4 i j point at_i at_j

pub in_order-requires-clause-within : goal.in_order-requires-clause-within
in_order-requires-clause-within c = λ k other inside.
    let d = c.args.sig.now in
    let h = c.args.h.now in
    let sorts = c.args.sorts.now in
    let points = c.args.points.now in
    let upper = c.requires.upper in
    let o = c.requires.order in
    left_within d h sorts o.0 o.1 points upper o.2 o.3 o.4 k other inside
