use Rattle.std.proofs.Common.{sym, ◌∙◌}
use Rattle.ct_terms.proofs.CoreLemmas.{Decides-same_core}
use Rattle.ct_restriction.proofs.agreeing.is_renamed.Goals as goal

pub returns : goal.returns
returns c = record {
  renamed = λ yes. sym ((Decides-same_core c.in_ok-expected.expected c.args.other.now).0 (sym c.eq-same.ensures ∙ yes)) ∙ c.in_ok-expected.ensures.renamed;
}
