use Rattle.ct_names.proofs.RepeatLemmas.{was_met}
use Rattle.ct_names.proofs.repeats.meet.Goals as goal

pub returns-in_ok-new-in-Some-clause-met : goal.returns-in_ok-new-in-Some-clause-met
returns-in_ok-new-in-Some-clause-met c = was_met c.in_ok-new-in-Some.new c.in-Some.text c.args.seen.now.keys c.args.name c.in-Some.is c.in_ok-new-in-Some.ensures.added
