use Rattle.std.proofs.Common.{List, sym, ◌∙◌, subst}
use Rattle.ct_sorts.specs.Declarations.{Declarations}
use Rattle.ct_values.specs.declared.node.NodeId.{NodeId}
use Rattle.ct_values.specs.WellFormed.{IsWellFormedGraph}
use Rattle.ct_card.specs.Made.{IsPrepared}
use Rattle.ct_build.specs.OpenClasses.{AreOfAllSorts}
use Rattle.ct_build.specs.Chosen.{AreChosen}
use Rattle.ct_build.proofs.ChosenLemmas.{chosen_none}
use Rattle.ct_build.proofs.DefaultLemmas.{all_sorts_longer}
use Rattle.ct_build.proofs.GraphLemmas.{empty_well_formed}
use Rattle.ct_build.proofs.small_values.small_values.Goals as goal

pub push_numbers-requires-clause-prepared : goal.push_numbers-requires-clause-prepared
push_numbers-requires-clause-prepared c =
    subst (λ (k : Declarations). IsPrepared k c.args.sizes.now c.prepare.new.g c.in_ok-prepared.prepared) c.signature-2.ensures.value c.in_ok-prepared.ensures.prepared

pub nodes_over-requires-clause-chosen : goal.nodes_over-requires-clause-chosen
nodes_over-requires-clause-chosen c =
    let state = c.args.classes.now in
    let d = state.declarations in
    let e = c.signature.ensures.value in
    let f = c.signature-2.ensures.value in
    let first = c.default_nodes.new.g in
    let g = c.prepare.new.g in
    let defaults = c.in_ok-defaults.defaults.items in
    let formed : IsWellFormedGraph d first = subst (λ (k : Declarations). IsWellFormedGraph k first) e (c.in_ok-defaults.ensures.well_formed (empty_well_formed c.signature.result.now c.from_nodes-graph.result (c.from_nodes-graph.ensures.value ∙ c.new.ensures.items))) in
    let of_sorts : AreOfAllSorts d first defaults = subst (λ (k : Declarations). AreOfAllSorts k first defaults) e c.in_ok-defaults.ensures.nodes in
    let formed_too : IsWellFormedGraph d g = subst (λ (k : Declarations). IsWellFormedGraph k first → IsWellFormedGraph k g) f c.in_ok-prepared.ensures.well_formed formed in
    subst (λ (l : List NodeId). AreChosen state c.push_numbers.new.chosen.graph defaults c.args.unbuilt.now l) (sym c.deref.ensures.value)
    (c.in_ok-push_numbers.ensures.chosen defaults
    (chosen_none state defaults c.args.unbuilt.now g c.new-2.result.items c.new-2.ensures.items formed_too (all_sorts_longer d first g defaults c.in_ok-prepared.ensures.grown of_sorts)))
