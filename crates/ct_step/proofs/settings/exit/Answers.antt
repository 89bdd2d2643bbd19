use Rattle.ct_step.proofs.DoneLemmas.{ends}
use Rattle.ct_step.proofs.settings.exit.Goals as goal

pub returns : goal.returns
returns c = record { done = λ number. ends c.args.state.now number c.in_ok-answer.answer c.in_ok-answer.ensures.answer }
