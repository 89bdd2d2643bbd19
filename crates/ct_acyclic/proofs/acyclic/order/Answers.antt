use Rattle.std.proofs.Common.{length, ◌≡◌, slice_get, Some, arith}
use Rattle.std.specs.List.{AllZip}
use Rattle.std.proofs.lemmas.Option.{slice_get_within}
use Rattle.ct_terms.specs.declared.ids.TermId.{TermId}
use Rattle.ct_acyclic.proofs.NoCycleLemmas.{no_cycle}
use Rattle.ct_ordering.specs.Graph.{graph}
use Rattle.ct_ordering.specs.Order.{IsOrder, IsCycle}
use Rattle.ct_acyclic.specs.Edges.{AreKept, IsEntry}
use Rattle.ct_acyclic.proofs.KeptLemmas.{IsClassOrder-of}
use Rattle.ct_acyclic.proofs.CycleLemmas.{hop_leads, hop_within, IsCycle-of}
use Rattle.ct_acyclic.proofs.acyclic.order.Goals as goal

pub returns-in-Order-clause-order : goal.returns-in-Order-clause-order
returns-in-Order-clause-order c =
    let state = c.args.classes.now in
    let starts = c.in_ok-edges.edges.starts.items in
    let kids = c.in_ok-edges.edges.kids.items in
    let points = c.in-Order.points.items in
    let order : IsOrder (graph starts kids) points = rw (c.deref.ensures.value, c.deref-2.ensures.value, c.in-Order.is) at c.in_ok-points.ensures.ordered in
    let kept : AreKept state points (length points) c.in_ok-reps-in-Order.reps.items = rw c.deref-in-Order.ensures.value at c.in_ok-reps-in-Order.ensures.kept in
    IsClassOrder-of state starts kids points c.in_ok-reps-in-Order.reps.items c.in_ok-edges.ensures.long c.in_ok-edges.ensures.rows order kept

pub returns-in-Order-clause-acyclic : goal.returns-in-Order-clause-acyclic
returns-in-Order-clause-acyclic c =
    let state = c.args.classes.now in
    let rows = c.in_ok-edges.ensures.rows in
    let long = c.in_ok-edges.ensures.long in
    let own = λ (x r : TermId) (at : slice_get state.reps x.0 ≡ Some r).
    let inside = slice_get_within state.reps x.0 r at in
    (rows.rows x.0 (omega (arith, inside, long))).own r at in
    no_cycle state c.in_ok-reps-in-Order.reps.items c.in_ok-edges.ensures.one_sort own (returns-in-Order-clause-order c) long

pub entries-requires-clause-leads : goal.entries-requires-clause-leads
entries-requires-clause-leads c =
    let state = c.args.classes.now in
    let starts = c.in_ok-edges.edges.starts.items in
    let kids = c.in_ok-edges.edges.kids.items in
    let hops = c.in-Cycle.hops.items in
    let cycle : IsCycle (graph starts kids) hops = rw (c.deref.ensures.value, c.deref-2.ensures.value, c.in-Cycle.is) at c.in_ok-points.ensures.ordered in
    rw c.deref-in-Cycle.ensures.value (hop_leads state starts kids hops c.in_ok-edges.ensures.rows cycle)

pub entries-requires-clause-within : goal.entries-requires-clause-within
entries-requires-clause-within c =
    let state = c.args.classes.now in
    let starts = c.in_ok-edges.edges.starts.items in
    let kids = c.in_ok-edges.edges.kids.items in
    let hops = c.in-Cycle.hops.items in
    let cycle : IsCycle (graph starts kids) hops = rw (c.deref.ensures.value, c.deref-2.ensures.value, c.in-Cycle.is) at c.in_ok-points.ensures.ordered in
    rw c.deref-in-Cycle.ensures.value (hop_within state starts kids hops c.in_ok-edges.ensures.rows cycle)

pub returns-clause-refused : goal.returns-clause-refused
returns-clause-refused c =
    let state = c.args.classes.now in
    let starts = c.in_ok-edges.edges.starts.items in
    let kids = c.in_ok-edges.edges.kids.items in
    let hops = c.in-Cycle.hops.items in
    let cycle : IsCycle (graph starts kids) hops = rw (c.deref.ensures.value, c.deref-2.ensures.value, c.in-Cycle.is) at c.in_ok-points.ensures.ordered in
    let each : AllZip (IsEntry state) hops c.in_ok-cycle-in-Cycle.cycle.items = rw c.deref-in-Cycle.ensures.value at c.in_ok-cycle-in-Cycle.ensures.entries in
    IsCycle-of state starts kids hops c.in_ok-edges.ensures.rows cycle c.in_ok-cycle-in-Cycle.cycle.items each
