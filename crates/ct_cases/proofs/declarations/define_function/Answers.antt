use Rattle.ct_cases.proofs.GrownLemmas.{by_equal, by_result}
use Rattle.ct_cases.proofs.declarations.define_function.Goals as goal

pub returns-in_ok-result-in-len3 : goal.returns-in_ok-result-in-len3
returns-in_ok-result-in-len3 c = record {
  grown =
      by_result c.add_def.result c.add_def.new.self c.args.sig.now c.growth.ensures.itself c.add_def.ensures.ok c.add_def.ensures.refused
      (λ f h. by_equal _ _ _ h.1 (c.growth.ensures.definition c.args.sig.now _));
}
