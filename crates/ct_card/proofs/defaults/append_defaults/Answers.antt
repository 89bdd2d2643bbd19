use Rattle.std.proofs.Common.{◌++◌, length, sym, subst, arith}
use Rattle.ct_values.specs.Graph.{Nodes}
use Rattle.ct_values.specs.Fitting.{HasNodeSort}
use Rattle.ct_values.specs.WellFormed.{IsWellFormedGraph}
use Rattle.ct_card.specs.Defaults.{AreDefaultNodes, HasDefaults, node_of_sort}
use Rattle.ct_card.proofs.DefaultLemmas.{defaults_well_formed, defaults_sorted, defaults_stand, defaults_below, ranked_below}
use Rattle.ct_card.proofs.defaults.append_defaults.Goals as goal

pub default_nodes-requires-clause-ranked : goal.default_nodes-requires-clause-ranked
default_nodes-requires-clause-ranked c =
    ranked_below c.args.sig.now c.args.ranks.now c.args.order.now c.requires.plan.founded c.len-base.result 18446744073709551616 (omega (arith, c.if-base-order.false))

pub append-requires : goal.append-requires
append-requires c =
    let d = c.args.sig.now in
    let e = c.structure.ensures in
    let k = c.sorts.ensures.consistent in
    let nodes = c.in_ok-nodes.nodes.items in
    let are : AreDefaultNodes d c.args.ranks.now c.args.order.now c.args.ctors.now (length c.args.g.now) nodes = subst (λ n. AreDefaultNodes d c.args.ranks.now c.args.order.now c.args.ctors.now n nodes) c.len-base.ensures.count c.in_ok-nodes.ensures.nodes in
    record { below = defaults_below d k (e.own_constructors d k) (e.own_selectors d k) (e.of_their_sorts d k) (e.of_their_constructors d k) c.args.ranks.now c.args.order.now c.args.ctors.now c.requires.plan c.args.g.now nodes are }

pub returns-clause-well_formed : goal.returns-clause-well_formed
returns-clause-well_formed c = λ formed.
    let d = c.args.sig.now in
    let e = c.structure.ensures in
    let k = c.sorts.ensures.consistent in
    let nodes = c.in_ok-nodes.nodes.items in
    let are : AreDefaultNodes d c.args.ranks.now c.args.order.now c.args.ctors.now (length c.args.g.now) nodes = subst (λ n. AreDefaultNodes d c.args.ranks.now c.args.order.now c.args.ctors.now n nodes) c.len-base.ensures.count c.in_ok-nodes.ensures.nodes in
    subst (λ (x : Nodes). IsWellFormedGraph d x) (sym c.in_ok-append.ensures.ok) (defaults_well_formed d k (e.own_constructors d k) (e.own_selectors d k) (e.of_their_sorts d k) (e.of_their_constructors d k) c.args.ranks.now c.args.order.now c.args.ctors.now c.requires.plan c.args.g.now nodes are formed)

pub returns-clause-stand : goal.returns-clause-stand
returns-clause-stand c =
    let d = c.args.sig.now in
    let e = c.structure.ensures in
    let k = c.sorts.ensures.consistent in
    let nodes = c.in_ok-nodes.nodes.items in
    let are : AreDefaultNodes d c.args.ranks.now c.args.order.now c.args.ctors.now (length c.args.g.now) nodes = subst (λ n. AreDefaultNodes d c.args.ranks.now c.args.order.now c.args.ctors.now n nodes) c.len-base.ensures.count c.in_ok-nodes.ensures.nodes in
    subst (λ (x : Nodes). HasDefaults d c.args.ranks.now c.args.ctors.now x c.len-base.result) (sym c.in_ok-append.ensures.ok)
    (subst (λ n. HasDefaults d c.args.ranks.now c.args.ctors.now (c.args.g.now ++ nodes) n) (sym c.len-base.ensures.count) (defaults_stand d k (e.own_constructors d k) (e.own_selectors d k) (e.of_their_sorts d k) (e.of_their_constructors d k) c.args.ranks.now c.args.order.now c.args.ctors.now c.requires.plan c.args.g.now nodes are))

pub returns-clause-sorted : goal.returns-clause-sorted
returns-clause-sorted c = λ s within.
    let d = c.args.sig.now in
    let e = c.structure.ensures in
    let k = c.sorts.ensures.consistent in
    let nodes = c.in_ok-nodes.nodes.items in
    let are : AreDefaultNodes d c.args.ranks.now c.args.order.now c.args.ctors.now (length c.args.g.now) nodes = subst (λ n. AreDefaultNodes d c.args.ranks.now c.args.order.now c.args.ctors.now n nodes) c.len-base.ensures.count c.in_ok-nodes.ensures.nodes in
    subst (λ (x : Nodes). HasNodeSort d x (node_of_sort c.len-base.result c.args.ranks.now s) (record { 0 = s })) (sym c.in_ok-append.ensures.ok)
    (subst (λ n. HasNodeSort d (c.args.g.now ++ nodes) (node_of_sort n c.args.ranks.now s) (record { 0 = s })) (sym c.len-base.ensures.count) (defaults_sorted d k (e.own_constructors d k) (e.own_selectors d k) (e.of_their_sorts d k) (e.of_their_constructors d k) c.args.ranks.now c.args.order.now c.args.ctors.now c.requires.plan c.args.g.now nodes are s within))

pub returns-clause-ranked : goal.returns-clause-ranked
returns-clause-ranked c =
    ranked_below c.args.sig.now c.args.ranks.now c.args.order.now c.requires.plan.founded c.len-base.result 18446744073709551616 (omega (arith, c.if-base-order.false))
