use Rattle.std.proofs.Common.{List, sym, ◌∙◌, subst}
use Rattle.ct_sorts.specs.Declarations.{Declarations}
use Rattle.ct_values.specs.declared.node.NodeId.{NodeId}
use Rattle.ct_values.specs.WellFormed.{IsWellFormedGraph}
use Rattle.ct_build.specs.OpenClasses.{AreOfAllSorts}
use Rattle.ct_build.specs.Trials.{AreAllChosen}
use Rattle.ct_card.specs.Made.{IsPrepared}
use Rattle.ct_build.proofs.ChosenLemmas.{chosen_none}
use Rattle.ct_build.proofs.DefaultLemmas.{all_sorts_longer}
use Rattle.ct_build.proofs.GraphLemmas.{empty_well_formed}
use Rattle.ct_build.proofs.valued.valued.Goals as goal

pub choose-requires-clause-chosen : goal.choose-requires-clause-chosen
choose-requires-clause-chosen c =
    let state = c.args.classes.now in
    let d = state.declarations in
    let e = c.signature.ensures.value in
    let f = c.signature-2.ensures.value in
    let first = c.default_nodes.new.g in
    let g = c.prepare.new.g in
    let defaults = c.in_ok-defaults.defaults.items in
    let formed : IsWellFormedGraph d first = subst (λ (k : Declarations). IsWellFormedGraph k first) e (c.in_ok-defaults.ensures.well_formed (empty_well_formed c.signature.result.now c.from_nodes-graph.result (c.from_nodes-graph.ensures.value ∙ c.new.ensures.items))) in
    let of_sorts : AreOfAllSorts d first defaults = subst (λ (k : Declarations). AreOfAllSorts k first defaults) e c.in_ok-defaults.ensures.nodes in
    let formed_too : IsWellFormedGraph d g = subst (λ (k : Declarations). IsWellFormedGraph k first → IsWellFormedGraph k g) f c.in_ok-prepared.ensures.well_formed formed in
    chosen_none state c.deref.result.now c.args.unbuilt.now g c.new-2.result.items c.new-2.ensures.items formed_too
    (subst (λ (l : List NodeId). AreOfAllSorts d g l) (sym c.deref.ensures.value) (all_sorts_longer d first g defaults c.in_ok-prepared.ensures.grown of_sorts))

pub choose-requires-clause-prepared : goal.choose-requires-clause-prepared
choose-requires-clause-prepared c =
    subst (λ (k : Declarations). IsPrepared k c.args.sizes.now c.prepare.new.g c.in_ok-prepared.prepared) c.signature-2.ensures.value c.in_ok-prepared.ensures.prepared

pub class_values-requires-clause-buildable : goal.class_values-requires-clause-buildable
class_values-requires-clause-buildable c = (c.args.sizes.now, c.requires.buildable)

pub class_values-requires-clause-all : goal.class_values-requires-clause-all
class_values-requires-clause-all c =
    let state = c.args.classes.now in
    let g = c.choose.new.chosen.graph in
    let nodes = c.choose.new.chosen.nodes.items in
    subst (λ (l : List NodeId). AreAllChosen state c.deref-2.result.now c.args.unbuilt.now g l) (sym c.deref-3.ensures.value)
    (subst (λ (l : List NodeId). AreAllChosen state l c.args.unbuilt.now g nodes) (c.deref.ensures.value ∙ sym c.deref-2.ensures.value) c.in_ok-choose.ensures.all)

pub returns-clause-defaults : goal.returns-clause-defaults
returns-clause-defaults c = subst (λ (l : List NodeId). AreOfAllSorts c.args.classes.now.declarations c.class_values.new.g l) c.deref-2.ensures.value c.in_ok-nodes.ensures.defaults
