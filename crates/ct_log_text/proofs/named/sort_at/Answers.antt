use Rattle.ct_log_text.proofs.NamedLemmas.{at_answer, at_inside}
use Rattle.ct_log_text.proofs.named.sort_at.Goals as goal

pub returns-clause-value : goal.returns-clause-value
returns-clause-value c = at_answer c.args.sig.now c.sorts.ensures.consistent c.args.g c.args.sorts.now c.requires.sorts c.find_at.result c.find_at.ensures.some c.find_at.ensures.none

pub returns-clause-inside : goal.returns-clause-inside
returns-clause-inside c = at_inside c.args.sig.now c.sorts.ensures.consistent c.args.g c.args.sorts.now c.requires.sorts c.find_at.result c.find_at.ensures.some
