use Rattle.std.proofs.Common.{rules, tests, ◌∙◌}
use Rattle.std.proofs.lemmas.Iterator.{YieldsList-from_slice}
use Rattle.std.proofs.lemmas.Iterator.Consumers.{YieldsList-from_filter, count_from_yields_List}
use Rattle.std.proofs.lemmas.List.Sums.{length-filter}
use Rattle.ct_run.specs.Generated as spec
use Rattle.ct_run.proofs.counts.count_unknown.Goals as goal

pub returns : goal.returns
returns c = record {
  count = count_from_yields_List c.filter.result _ c.count.ensures.ran
      (YieldsList-from_filter _ spec.is_unknown (YieldsList-from_slice c.args.responses.now (cc)) c.filter.ensures.closure (λ x b q k. search (rules, tests)))
      ∙ length-filter spec.is_unknown c.args.responses.now;
}
