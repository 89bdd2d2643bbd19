use Rattle.std.proofs.Common.{not, ap, ◌∙◌}
use Rattle.ct_sorts.specs.Declarations.{bool_sort}
use Rattle.ct_terms.specs.declared.term.Core.TheVariants.{Not}
use Rattle.ct_values.specs.TruthValue.{truth}
use Rattle.ct_eval.proofs.StepTerms.{true_alike}
use Rattle.ct_eval.proofs.StepReady.{ready_Not}
use Rattle.ct_eval.proofs.StepTruth.{answered}
use Rattle.ct_eval.proofs.boolean.negate.Goals as goal

pub is_true-answer-requires : goal.is_true-answer-requires
is_true-answer-requires c =
    let r = c.requires.ready in
    record { there = ready_Not r.0 r.1 c.args.shared.now c.args.nodes.now c.args.t r.2 }

pub returns-clause-value : goal.returns-clause-value
returns-clause-value c = λ d i consistent fits.
    let g = c.args.shared.now in
    let nodes = c.args.nodes.now in
    answered d i g c.truth.new.shared nodes (Not c.args.t) (not c.is_true-answer.result) c.truth.result (c.truth.ensures.value d i consistent fits) (λ terms value sort valued sorted.
    let same = c.is_true-answer.ensures.value ∙ true_alike d i terms g nodes value valued c.theorems.ensures.theorems c.args.t bool_sort sorted.0 c.requires.ready.2.below.0 in
    (ap (λ b. truth (not b)) same, sorted.1))
