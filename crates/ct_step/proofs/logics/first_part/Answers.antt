use Rattle.std.proofs.Common.{◌≡◌, ◌∙◌, ◌≤◌, ◌++◌, length, drop, sym}
use Rattle.ct_words.specs.NameList.{IsListed}
use Rattle.ct_words.specs.Words.{logic_part_names}
use Rattle.ct_step.proofs.LogicLemmas.{tried, only_met, found_part, begins_with, of_found, not_longer}
use Rattle.ct_step.proofs.logics.first_part.Goals as goal

pub returns : goal.returns
returns c =
    let name = c.args.name.now in
    let is = c.first_of.ensures.first in
    record {
      part = of_found (λ p. IsListed logic_part_names p) c.first_of.result (λ p e. (found_part name p (sym is ∙ e)).0);
      begins = of_found (λ p. name ≡ p ++ drop (length p) name) c.first_of.result (λ p e. begins_with name p tried (sym is ∙ e));
      within =
          of_found (λ p. (1 ≤ length p) × (length p ≤ length name)) c.first_of.result
          (λ p e. ((found_part name p (sym is ∙ e)).1, not_longer name p (drop (length p) name) (begins_with name p tried (sym is ∙ e))));
      only = λ part parts known spelled. is ∙ only_met name part parts known spelled;
    }
