use Rattle.std.proofs.Common.{sym, ◌∙◌}
use Rattle.ct_terms.proofs.CoreLemmas.{Decides-same_core}
use Rattle.ct_trial.proofs.stored.is_core.Goals as goal

pub returns : goal.returns
returns c = record {
  same = λ yes. (Decides-same_core c.args.core.now c.args.other.now).0 (sym c.eq-same.ensures ∙ yes);
}
