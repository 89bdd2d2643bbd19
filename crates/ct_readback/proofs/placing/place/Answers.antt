use Rattle.ct_ordering.specs.Graph.{graph}
use Rattle.ct_ordering.specs.Order.{IsOrder, IsCycle}
use Rattle.ct_readback.proofs.CycleLemmas.{cycle_of, ordered_acyclic}
use Rattle.ct_readback.proofs.placing.place.Goals as goal

pub returns-in-Cycle-clause-placed : goal.returns-in-Cycle-clause-placed
returns-in-Cycle-clause-placed c =
    let starts = c.in_ok-edges.edges.starts.items in
    let kids = c.in_ok-edges.edges.kids.items in
    let hops = c.in-Cycle.field-0.items in
    let cycle : IsCycle (graph starts kids) hops = rw (c.deref.ensures.value, c.deref-2.ensures.value, c.in-Cycle.is) at c.in_ok-order.ensures.ordered in
    cycle_of c.args.sig.now c.args.h.now (graph starts kids) c.in_ok-edges.ensures.edges hops cycle

pub returns-clause-placed : goal.returns-clause-placed
returns-clause-placed c =
    let starts = c.in_ok-edges.edges.starts.items in
    let kids = c.in_ok-edges.edges.kids.items in
    let points = c.in-Order.points.items in
    let order : IsOrder (graph starts kids) points = rw (c.deref.ensures.value, c.deref-2.ensures.value, c.in-Order.is) at c.in_ok-order.ensures.ordered in
    (ordered_acyclic c.args.sig.now c.args.h.now (graph starts kids) c.in_ok-edges.ensures.edges points order, c.in_ok-n-in-Order.ensures.placed)
