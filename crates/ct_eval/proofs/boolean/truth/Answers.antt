use Rattle.std.proofs.Common.{◌∙◌}
use Rattle.ct_values.specs.declared.node.Node.TheVariants.{Con}
use Rattle.ct_eval.proofs.StepSorts.{IsGrown-constructed}
use Rattle.ct_eval.proofs.StepTruth.{truth_constructed}
use Rattle.ct_eval.proofs.boolean.truth.Goals as goal

pub returns-clause-grown : goal.returns-clause-grown
returns-clause-grown c =
    IsGrown-constructed c.args.shared.now c.construct.new.self (Con c.truth_ctor.result c.new-2.result) c.in_ok-construct.field-0 c.in_ok-construct.ensures.grown c.in_ok-construct.ensures.number

pub returns-clause-value : goal.returns-clause-value
returns-clause-value c = λ d i consistent fits.
    truth_constructed c.theorems.ensures.theorems d i c.args.shared.now c.construct.new.self c.truth_ctor.result c.new-2.result c.args.value c.in_ok-construct.field-0 consistent c.theorems.ensures.closed fits c.truth_ctor.ensures.few (c.new-2.ensures.value ∙ c.new.ensures.items) c.truth_ctor.ensures.value
    c.in_ok-construct.ensures.grown
    c.in_ok-construct.ensures.first
