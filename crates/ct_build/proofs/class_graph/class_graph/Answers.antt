use Rattle.std.proofs.Common.{List, length, sym, subst}
use Rattle.ct_values.specs.declared.node.NodeId.{NodeId}
use Rattle.ct_values.specs.Graph.{Nodes}
use Rattle.ct_values.specs.WellFormed.{IsWellFormedGraph}
use Rattle.ct_terms.specs.declared.ids.TermId.{TermId}
use Rattle.ct_build.specs.Nodes.{HaveSortedNodes, AreNumbered, AreClassNodes, AreAssigned}
use Rattle.ct_build.proofs.ListedLemmas.{listed_within}
use Rattle.ct_build.proofs.ClassGraphLemmas.{added_below, graph_assigned, graph_sorted}
use Rattle.ct_build.proofs.class_graph.class_graph.Goals as goal

pub numbered-requires-clause-inside : goal.numbered-requires-clause-inside
numbered-requires-clause-inside c = rw c.deref.ensures.value (listed_within c.args.classes.now c.args.order.now c.in_ok-list.list.items c.known.ensures.known.long c.requires.ordered c.in_ok-list.ensures.list)

pub class_nodes-requires-clause-inside : goal.class_nodes-requires-clause-inside
class_nodes-requires-clause-inside c = rw c.deref-2.ensures.value (listed_within c.args.classes.now c.args.order.now c.in_ok-list.list.items c.known.ensures.known.long c.requires.ordered c.in_ok-list.ensures.list)

pub append-requires : goal.append-requires
append-requires c =
    let state = c.args.classes.now in
    let g = c.args.g.now in
    let list = c.in_ok-list.list.items in
    let nodes = c.in_ok-nodes.nodes.items in
    let added = c.in_ok-added.added.items in
    let numbered : AreNumbered state list (length g) nodes = subst (λ b. AreNumbered state list b nodes) c.len-base.ensures.count (subst (λ (l : List TermId). AreNumbered state l c.len-base.result nodes) c.deref.ensures.value c.in_ok-nodes.ensures.numbered) in
    let are : AreClassNodes state g c.args.values.now list nodes added = subst (λ (l : List TermId). AreClassNodes state g c.args.values.now l nodes added) c.deref-2.ensures.value (subst (λ (l : List NodeId). AreClassNodes state g c.args.values.now c.deref-2.result.now l added) c.deref-3.ensures.value c.in_ok-added.ensures.added) in
    record { below = added_below state c.known.ensures.known c.requires.quiet c.requires.own c.args.order.now list c.requires.ordered c.in_ok-list.ensures.list g c.len-base.ensures.closed c.args.values.now nodes numbered added are }

pub returns : goal.returns
returns c =
    let state = c.args.classes.now in
    let d = state.declarations in
    let g = c.args.g.now in
    let list = c.in_ok-list.list.items in
    let nodes = c.in_ok-nodes.nodes.items in
    let added = c.in_ok-added.added.items in
    let values = c.args.values.now in
    let numbered : AreNumbered state list (length g) nodes = subst (λ b. AreNumbered state list b nodes) c.len-base.ensures.count (subst (λ (l : List TermId). AreNumbered state l c.len-base.result nodes) c.deref.ensures.value c.in_ok-nodes.ensures.numbered) in
    let are : AreClassNodes state g values list nodes added = subst (λ (l : List TermId). AreClassNodes state g values l nodes added) c.deref-2.ensures.value (subst (λ (l : List NodeId). AreClassNodes state g values c.deref-2.result.now l added) c.deref-3.ensures.value c.in_ok-added.ensures.added) in
    let is = c.in_ok-append.ensures.ok in
    record {
      grown = (added, is);
      assigned = subst (λ (h : Nodes). AreAssigned state g values h nodes) (sym is) (graph_assigned state c.known.ensures.known c.requires.quiet c.requires.own c.args.order.now list c.requires.ordered c.in_ok-list.ensures.list g c.len-base.ensures.closed values nodes numbered added are);
      sorted = λ formed have. subst (λ (h : Nodes). IsWellFormedGraph d h × HaveSortedNodes d state.terms h nodes) (sym is) (graph_sorted state c.known.ensures.known c.requires.quiet c.requires.own c.args.order.now list c.requires.ordered c.in_ok-list.ensures.list g c.len-base.ensures.closed values nodes numbered added are formed have);
    }
