use Rattle.std.proofs.Common.{◌≡◌, List, sym, ap, ◌∙◌}
use Rattle.ct_sorts.specs.Declarations.{bool_sort}
use Rattle.ct_values.specs.declared.node.NodeId.{NodeId}
use Rattle.ct_values.specs.Graph.{Nodes}
use Rattle.ct_values.specs.Value.{reference}
use Rattle.ct_values.specs.TruthValue.{is_true}
use Rattle.ct_eval.specs.Evaluation.{value_of}
use Rattle.ct_eval.specs.EvaluationStep.{node_under}
use Rattle.ct_eval.proofs.StepTerms.{true_alike}
use Rattle.ct_trial.proofs.trial.Trial.is_true.Goals as goal

pub returns : goal.returns
returns c = record {
  truth = λ d table i boolean trial yes.
      let nodes = c.args.self.now.nodes.items in
      let under : NodeId = node_under nodes c.args.t in
      let node : c.node_of-node.result ≡ under = c.node_of-node.ensures.value ∙ ap (λ (l : List NodeId). node_under l c.args.t) c.as_slice.ensures.value in
      sym (true_alike d i table i.graph nodes (value_of d i table) trial.tried.valued c.growth_theorems.ensures.steps c.args.t bool_sort boolean c.requires.within)
      ∙ ap (λ (g : Nodes). is_true g (reference under)) (sym trial.shared)
      ∙ ap (λ (g : Nodes). is_true g (reference under)) (sym c.graph-2.ensures.value)
      ∙ ap (λ (n : NodeId). is_true c.graph-2.result.now (reference n)) (sym node)
      ∙ sym c.is_built.ensures.value ∙ yes;
}
