use Rattle.ct_cases.proofs.GrownLemmas.{by_result}
use Rattle.ct_cases.proofs.declarations.declare_instance.Goals as goal

pub returns-else-not-are_parameters_below : goal.returns-else-not-are_parameters_below
returns-else-not-are_parameters_below c = record {
  grown =
      by_result c.instance.result c.instance.new.self c.args.sig.now c.growth.ensures.itself c.instance.ensures.ok c.instance.ensures.unchanged
      (λ s h. c.growth.ensures.instance c.args.sig.now c.instance.new.self _ s h);
}
