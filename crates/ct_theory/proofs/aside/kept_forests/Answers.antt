use Rattle.ct_theory.proofs.ForestLemmas.{keeps_more, keeps_fewer}
use Rattle.ct_theory.proofs.aside.kept_forests.Goals as goal

pub returns : goal.returns
returns c = record {
  all = c.forests.ensures.all;
  more = keeps_more c.forests.ensures.alike;
  fewer = keeps_fewer c.forests.ensures.alike;
}
