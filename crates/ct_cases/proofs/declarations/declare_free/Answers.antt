use Rattle.std.proofs.Common.{[]}
use Rattle.ct_cases.proofs.GrownLemmas.{by_equal, by_result}
use Rattle.ct_cases.proofs.declarations.declare_free.Goals as goal

pub returns-in_ok-name-in-len1 : goal.returns-in_ok-name-in-len1
returns-in_ok-name-in-len1 c = record {
  grown =
      by_result c.add_free.result c.add_free.new.self c.args.sig.now c.growth.ensures.itself c.add_free.ensures.ok c.add_free.ensures.refused
      (λ s h. by_equal _ _ _ h.1 (c.growth.ensures.sort c.args.sig.now _));
}

pub returns-in_ok-name-in-len2 : goal.returns-in_ok-name-in-len2
returns-in_ok-name-in-len2 c = record {
  grown =
      by_result c.add_free_generic.result c.add_free_generic.new.self c.args.sig.now c.growth.ensures.itself c.add_free_generic.ensures.ok c.add_free_generic.ensures.refused
      (λ g h. by_equal _ _ _ h.1 (c.growth.ensures.head c.args.sig.now _ []));
}
