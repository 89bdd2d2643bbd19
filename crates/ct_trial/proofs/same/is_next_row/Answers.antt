use Rattle.std.proofs.Common.{sym, ◌∙◌}
use Rattle.ct_trial.proofs.SameCopyLemmas.{agree_at}
use Rattle.ct_trial.proofs.same.is_next_row.Goals as goal

pub returns : goal.returns
returns c = record {
  same = λ yes so_far.
      agree_at c.args.rows.now c.args.others.now c.args.index c.index-rows-index.result c.index-others-index.result c.requires.within c.requires.there
      (sym c.index-rows-index.is ∙ c.is_row.ensures.same yes ∙ c.index-others-index.is) so_far;
}
