use Rattle.std.proofs.Common.{ap, ◌∙◌}
use Rattle.ct_values.specs.Value.{reference}
use Rattle.ct_terms.specs.declared.term.Core.TheVariants.{Test}
use Rattle.ct_values.specs.TruthValue.{truth, is_built}
use Rattle.ct_eval.specs.EvaluationStep.{node_under}
use Rattle.ct_eval.proofs.StepNodes.{built_alike}
use Rattle.ct_eval.proofs.StepTerms.{valued_under}
use Rattle.ct_eval.proofs.StepReady.{ready_Test}
use Rattle.ct_eval.proofs.StepTruth.{answered}
use Rattle.ct_eval.proofs.boolean.test.Goals as goal

pub node_at-requires : goal.node_at-requires
node_at-requires c =
    let r = c.requires.ready in
    record { there = ready_Test r.0 r.1 c.args.shared.now c.args.nodes.now c.args.c c.args.t r.2 }

pub returns-clause-value : goal.returns-clause-value
returns-clause-value c = λ d i consistent fits.
    let g = c.args.shared.now in
    let nodes = c.args.nodes.now in
    answered d i g c.truth.new.shared nodes (Test c.args.c c.args.t) c.is_built-answer.result c.truth.result (c.truth.ensures.value d i consistent fits) (λ terms value sort valued sorted.
    let same = c.is_built-answer.ensures.value ∙ ap (λ h. is_built h c.args.c (reference c.node_at.result)) c.graph.ensures.value ∙ ap (λ n. is_built g c.args.c (reference n)) c.node_at.ensures.value ∙ built_alike c.theorems.ensures.theorems g i.graph c.args.c (value c.args.t) (node_under nodes c.args.t) (valued_under d i terms g nodes value valued c.args.t sorted.ctor.sort sorted.sorted c.requires.ready.2.below.0).first in
    (ap truth same, sorted.result))
