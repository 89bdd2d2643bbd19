use Rattle.std.proofs.Common.{◌≡◌, Bool, not, if◌then◌else◌, ap, ◌∙◌}
use Rattle.ct_sorts.specs.Declarations.{bool_sort}
use Rattle.ct_terms.specs.declared.term.Core.TheVariants.{Iff}
use Rattle.ct_values.specs.TruthValue.{truth, is_true}
use Rattle.ct_eval.proofs.StepTerms.{true_alike}
use Rattle.ct_eval.proofs.StepReady.{ready_Iff}
use Rattle.ct_eval.proofs.StepTruth.{answered}
use Rattle.ct_eval.proofs.boolean.compare.Goals as goal

pub is_true-requires : goal.is_true-requires
is_true-requires c =
    let r = c.requires.ready in
    record { there = (ready_Iff r.0 r.1 c.args.shared.now c.args.nodes.now c.args.a c.args.b r.2).0 }

pub is_true-requires-2 : goal.is_true-requires-2
is_true-requires-2 c =
    let r = c.requires.ready in
    record { there = (ready_Iff r.0 r.1 c.args.shared.now c.args.nodes.now c.args.a c.args.b r.2).1 }

-- two answers that are those of two others have one value just where those have
alike : (a b x y : Bool) → a ≡ x → b ≡ y → (if a then b else not b) ≡ (if x then y else not y)
alike a b x y left right = ap (λ (z : Bool). if z then b else not b) left ∙ ap (λ (z : Bool). if x then z else not z) right

pub returns-clause-value : goal.returns-clause-value
returns-clause-value c = λ d i consistent fits.
    let g = c.args.shared.now in
    let nodes = c.args.nodes.now in
    let below = c.requires.ready.2.below in
    answered d i g c.truth.new.shared nodes (Iff c.args.a c.args.b) c.is_one_value-answer.result c.truth.result (c.truth.ensures.value d i consistent fits) (λ terms value sort valued sorted.
    let left = c.is_true.ensures.value ∙ true_alike d i terms g nodes value valued c.theorems.ensures.theorems c.args.a bool_sort sorted.0 below.0 in
    let right = c.is_true-2.ensures.value ∙ true_alike d i terms g nodes value valued c.theorems.ensures.theorems c.args.b bool_sort sorted.1 below.1.0 in
    let same = c.is_one_value-answer.ensures.value ∙ alike c.is_true.result c.is_true-2.result (is_true i.graph (value c.args.a)) (is_true i.graph (value c.args.b)) left right in
    (ap truth same, sorted.2))
