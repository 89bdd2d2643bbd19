use Rattle.std.proofs.Common.{◌≡◌, ◌-◌, List, [], length, get_or, take, drop, refl, subst, arith}
use Rattle.ct_lemmas.proofs.Lists.{slice_get-read}
use Rattle.ct_lemmas.proofs.Prefixes.{nothing_left, rest-step}
use Rattle.ct_terms.specs.declared.ids.TermId.{TermId}
use Rattle.ct_values.specs.declared.node.NodeId.{NodeId}
use Rattle.ct_stack.proofs.ValueLemmas.{HaveNodes, no_nodes, one_node_more, first_within, all_nodes}
use Rattle.ct_stack.proofs.value.nodes_of.Goals as goal

abbrev zeroth : TermId
zeroth = record { 0 = 0 }

abbrev no_node : NodeId
no_node = record { 0 = 0 }

pub loop-left-init : goal.loop-left-init
loop-left-init c = rw c.in_ok-nodes.ensures.items (no_nodes c.args.all.now c.args.numbers.now c.requires.within)

pub bounds-all-first : goal.bounds-all-first
bounds-all-first c =
    let found = c.args.all.now in
    let numbers = c.args.numbers.now in
    let left = c.loop-left.left.now in
    let others = take (length left - 1) (drop 1 left) in
    let split = rest-step left zeroth c.in-len1-up.len_at_least in
    (first_within found numbers (get_or left 0 zeroth) others c.loop-left.nodes.items (subst (λ (ts : List TermId). HaveNodes found numbers ts c.loop-left.nodes.items) split c.loop-left.invariant))

pub loop-left-preserved : goal.loop-left-preserved
loop-left-preserved c =
    let found = c.args.all.now in
    let numbers = c.args.numbers.now in
    let left = c.loop-left.left.now in
    let others = take (length left - 1) (drop 1 left) in
    let split = rest-step left zeroth c.in-len1-up.len_at_least in
    let way = subst (λ (ts : List TermId). HaveNodes found numbers ts c.loop-left.nodes.items) split c.loop-left.invariant in
    let t = get_or left 0 zeroth in
    rw c.in_ok-push.ensures.items
    (one_node_more found numbers t others c.loop-left.nodes.items (get_or c.args.all.now t.0 no_node) way
    (slice_get-read found c.args.all.now refl t.0 no_node (first_within found numbers t others c.loop-left.nodes.items way)))

pub returns-clause-nodes : goal.returns-clause-nodes
returns-clause-nodes c =
    let found = c.args.all.now in
    let numbers = c.args.numbers.now in
    let none : c.loop-left.left.now ≡ [] = nothing_left c.loop-left.left.now (omega (arith, c.in_default.len_below)) in
    all_nodes found numbers c.loop-left.nodes.items (subst (λ (ts : List TermId). HaveNodes found numbers ts c.loop-left.nodes.items) none c.loop-left.invariant)
