use Rattle.ct_words.proofs.NameLemmas.{first_name-found, first_name-missing}
use Rattle.ct_words.proofs.text.first_name.Goals as goal

pub returns-in_default-clause-first : goal.returns-in_default-clause-first
returns-in_default-clause-first c = first_name-missing c.args.text.now c.requires.named c.in_default.ensures.end

pub returns-in_default-clause-ended : goal.returns-in_default-clause-ended
returns-in_default-clause-ended c = first_name-missing c.args.text.now c.requires.named c.in_default.ensures.end

pub returns-clause-first : goal.returns-clause-first
returns-clause-first c = (first_name-found c.args.text.now c.in-Some.end c.requires.named c.in-Some.ensures.end).0
