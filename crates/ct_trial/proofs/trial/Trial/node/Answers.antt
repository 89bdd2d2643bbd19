use Rattle.std.proofs.Common.{◌≡◌, List, [], length, refl, sym, subst, ◌∙◌}
use Rattle.std.proofs.lemmas.List.{append-nil}
use Rattle.ct_values.specs.declared.node.NodeId.{NodeId}
use Rattle.ct_values.specs.Graph.{Nodes, IsClosed}
use Rattle.ct_values.specs.Fitting.{FitsGraph}
use Rattle.ct_terms.specs.Terms.{HasArgumentsBelow}
use Rattle.ct_eval.specs.Evaluation.{core_value, value_of}
use Rattle.ct_eval.specs.EvaluationStep.{HasValue, AreValued, IsGrown, IsEvaluable}
use Rattle.ct_eval.proofs.IndexLemmas.{AreIndexed-index}
use Rattle.ct_eval.proofs.StepReady.{ready_at}
use Rattle.ct_trial.specs.Growth.{IsAppended}
use Rattle.ct_trial.proofs.GraphLemmas.{tried_after, row_stays_after, node_of, indexed_after}
use Rattle.ct_trial.proofs.trial.Trial.node.Goals as goal

pub node_of_term-requires-clause-longer : goal.node_of_term-requires-clause-longer
node_of_term-requires-clause-longer c = ([], c.requires.trial.shared ∙ sym (append-nil c.args.interp.now.graph))

pub node_of_term-requires-clause-fits : goal.node_of_term-requires-clause-fits
node_of_term-requires-clause-fits c =
    subst (FitsGraph c.args.sig.now) (sym c.requires.trial.shared) c.requires.trial.tried.proper.graph.fits

pub node_of_term-requires-clause-funs : goal.node_of_term-requires-clause-funs
node_of_term-requires-clause-funs c =
    let closed : IsClosed c.args.interp.now.graph = c.growth_theorems.ensures.growth.closed c.args.sig.now c.args.interp.now.graph c.requires.trial.tried.proper.graph.fits in
    AreIndexed-index c.args.interp.now.graph c.args.interp.now.funs c.args.self.now.funs closed c.requires.trial.tried.functions

pub node_of_term-requires-clause-offs : goal.node_of_term-requires-clause-offs
node_of_term-requires-clause-offs c =
    let closed : IsClosed c.args.interp.now.graph = c.growth_theorems.ensures.growth.closed c.args.sig.now c.args.interp.now.graph c.requires.trial.tried.proper.graph.fits in
    AreIndexed-index c.args.interp.now.graph c.args.interp.now.offs c.args.self.now.offs closed c.requires.trial.selectors

pub node_of_term-requires-clause-below : goal.node_of_term-requires-clause-below
node_of_term-requires-clause-below c =
    subst (λ (ns : List NodeId). HasArgumentsBelow (length ns) c.core.result.now) (sym c.as_slice.ensures.value) (c.requires.below.below c.core.result.now c.core.ensures.value)

pub node_of_term-requires-clause-ready : goal.node_of_term-requires-clause-ready
node_of_term-requires-clause-ready c =
    let d = c.args.sig.now in
    let i = c.args.interp.now in
    let terms = c.args.table.now in
    let g = c.args.self.now.shared in
    let nodes = c.args.self.now.nodes.items in
    let core = c.core.result.now in
    let valued : AreValued d i terms g nodes (value_of d i terms) =
    subst (λ (h : Nodes). AreValued d i terms h nodes (value_of d i terms)) (sym c.requires.trial.shared) c.requires.trial.tried.valued in
    subst (λ (ns : List NodeId). IsEvaluable d i g ns core) (sym c.as_slice.ensures.value)
    (ready_at d i terms g nodes (value_of d i terms) c.args.t.0 core valued c.requires.sorted c.core.ensures.value (c.requires.below.below core c.core.ensures.value))

pub catch_up-requires : goal.catch_up-requires
catch_up-requires c = record {
  grown = (c.in_ok-node.node, subst (λ (g : Nodes). IsGrown g c.node_of_term.new.shared c.in_ok-node.node) c.requires.trial.shared c.in_ok-node.ensures.grown);
}

pub returns : goal.returns
returns c =
    let d = c.args.sig.now in
    let i = c.args.interp.now in
    let terms = c.args.table.now in
    let trial = c.args.self.now in
    let steps = c.growth_theorems.ensures.steps in
    let growth = c.growth_theorems.ensures.growth in
    let tried = c.requires.trial.tried in
    let core = c.core.result.now in
    let has = c.core.ensures.value in
    let node = c.in_ok-node.node in
    let g = c.catch_up.new.graph in
    let same : g ≡ c.node_of_term.new.shared = c.in_ok-catch_up.ensures.same in
    let valued : AreValued d i terms trial.shared trial.nodes.items (value_of d i terms) =
    subst (λ (h : Nodes). AreValued d i terms h trial.nodes.items (value_of d i terms)) (sym c.requires.trial.shared) tried.valued in
    let in_slice : AreValued d i terms trial.shared c.as_slice.result.now (value_of d i terms) =
    subst (λ (ns : List NodeId). AreValued d i terms trial.shared ns (value_of d i terms)) (sym c.as_slice.ensures.value) valued in
    let given = c.in_ok-node.ensures.value terms (value_of d i terms) has.0 in_slice (c.requires.sorted c.args.t.0 core has.0 has.1) in
    let fits : FitsGraph d g = subst (FitsGraph d) (sym same) given.0 in
    let after : IsAppended i.graph g = c.in_ok-catch_up.ensures.appended in
    record {
      trial = record {
        tried = tried_after steps growth d terms i trial.funs trial.nodes.items tried g after fits;
        selectors = indexed_after i.graph g i.offs trial.offs after c.requires.trial.selectors;
        shared = sym same;
      };
      nodes = refl;
      value = node_of steps growth d terms i trial.funs trial.nodes.items tried g after fits c.args.t core has node (subst (λ (h : Nodes). HasValue d i h (core_value d i (value_of d i terms) core) has.0 node) (sym same) given.1);
      rowed = λ f args sort at. row_stays_after steps growth d terms i trial.funs trial.nodes.items tried g after fits f.0 args (c.requires.rowed f args sort at);
    }
