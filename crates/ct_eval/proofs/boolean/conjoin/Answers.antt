use Rattle.std.proofs.Common.{ap, ◌∙◌}
use Rattle.ct_values.specs.Value.{reference}
use Rattle.ct_terms.specs.declared.term.Core.TheVariants.{And}
use Rattle.ct_values.specs.TruthValue.{truth, is_true}
use Rattle.ct_eval.specs.EvaluationStep.{node_under}
use Rattle.ct_eval.proofs.StepLists.{list_all-alike}
use Rattle.ct_eval.proofs.StepTerms.{booleans_sorted, trues_alike}
use Rattle.ct_eval.proofs.StepReady.{ready_And}
use Rattle.ct_eval.proofs.StepTruth.{answered}
use Rattle.ct_eval.proofs.boolean.conjoin.Goals as goal

pub are_true-answer-requires : goal.are_true-answer-requires
are_true-answer-requires c =
    let r = c.requires.ready in
    record { there = ready_And r.0 r.1 c.args.shared.now c.args.nodes.now c.args.args.now r.2 }

pub returns-clause-value : goal.returns-clause-value
returns-clause-value c = λ d i consistent fits.
    let g = c.args.shared.now in
    let nodes = c.args.nodes.now in
    let args = c.args.args.now in
    answered d i g c.truth.new.shared nodes (And args) c.are_true-answer.result c.truth.result (c.truth.ensures.value d i consistent fits) (λ terms value sort valued sorted.
    let same = c.are_true-answer.ensures.value ∙ list_all-alike (λ t. is_true g (reference (node_under nodes t))) (λ t. is_true i.graph (value t)) args (trues_alike d i terms g nodes value valued c.theorems.ensures.theorems args (booleans_sorted terms args sorted.booleans) c.requires.ready.2.below) in
    (ap truth same, sorted.result))
