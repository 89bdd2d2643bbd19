use Rattle.std.proofs.Common.{◌≡◌, get_or, length, sym, subst, ◌∙◌, arith}
use Rattle.std.proofs.lemmas.Option.{slice_get-get_or}
use Rattle.ct_sorts.specs.declared.ids.SortId.{SortId}
use Rattle.ct_sexpr.specs.View.{expressions_of}
use Rattle.ct_values.specs.Graph.{Nodes}
use Rattle.ct_readback.specs.Descent.{AreNodesSaid}
use Rattle.ct_readback.proofs.RowNodeLemmas.{never_unsaid, said_more, said_all, said_closed}
use Rattle.ct_readback.proofs.graph_text.graph_of.Goals as goal

abbrev zeroth : SortId
zeroth = record { 0 = 0 }

pub said_at-requires : goal.said_at-requires
said_at-requires c =
    let sorts = c.args.sorts.now in
    let s = get_or sorts c.loop-i.i zeroth in
    record { inside = (c.requires.sorts.1.each c.loop-i.i s (slice_get-get_or sorts c.loop-i.i zeroth c.loop-i-test.true)).declared }

pub unreachable-requires : goal.unreachable-requires
unreachable-requires c =
    let sorts = c.args.sorts.now in
    let i = c.loop-i.i in
    let s = get_or sorts i zeroth in
    never_unsaid c.args.sig.now (expressions_of c.args.rows.now) c.requires.sorts.0 sorts c.requires.sorts.1 i s (slice_get-get_or sorts i zeroth c.loop-i-test.true) (sym c.in_ok-node.ensures.value ∙ c.in_default.is)

pub loop-i-preserved : goal.loop-i-preserved
loop-i-preserved c =
    let sorts = c.args.sorts.now in
    let i = c.loop-i.i in
    let s = get_or sorts i zeroth in
    said_more c.args.sig.now (expressions_of c.args.rows.now) c.requires.sorts.0 sorts c.requires.sorts.1 c.loop-i.nodes.items c.push.new.self.items c.in-Some.node i s (slice_get-get_or sorts i zeroth c.loop-i-test.true)
    (sym c.in_ok-node.ensures.value ∙ c.in-Some.is) c.in_ok-push.ensures.items c.loop-i.invariant.0 c.loop-i.invariant.1

pub from_nodes-requires : goal.from_nodes-requires
from_nodes-requires c =
    let d = c.args.sig.now in
    let rows = expressions_of c.args.rows.now in
    let sorts = c.args.sorts.now in
    let reached = c.requires.sorts.0 in
    let nodes = c.loop-i.nodes.items in
    let long : c.loop-i.i ≡ length sorts = omega (arith, c.loop-i-test.false, c.loop-i.auto.i-end) in
    record { closed = said_closed d rows reached sorts c.requires.sorts.1 nodes (said_all d rows reached sorts c.requires.sorts.1 nodes c.loop-i.i c.loop-i.invariant.0 c.loop-i.invariant.1 long) }

pub returns : goal.returns
returns c =
    let d = c.args.sig.now in
    let rows = expressions_of c.args.rows.now in
    let sorts = c.args.sorts.now in
    let reached = c.requires.sorts.0 in
    let nodes = c.loop-i.nodes.items in
    let long : c.loop-i.i ≡ length sorts = omega (arith, c.loop-i-test.false, c.loop-i.auto.i-end) in
    record { nodes = subst (λ (h : Nodes). AreNodesSaid d rows sorts h) (sym c.from_nodes.ensures.value) (said_all d rows reached sorts c.requires.sorts.1 nodes c.loop-i.i c.loop-i.invariant.0 c.loop-i.invariant.1 long) }
