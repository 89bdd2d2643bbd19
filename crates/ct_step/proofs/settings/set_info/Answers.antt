use Rattle.std.proofs.Common.{refl}
use Rattle.ct_command.specs.Command.{set_info}
use Rattle.ct_step.specs.Step.{success}
use Rattle.ct_step.proofs.DoneLemmas.{answers, never}
use Rattle.ct_step.proofs.settings.set_info.Goals as goal

pub returns : goal.returns
returns c = record { done = λ number. answers c.args.state.now number set_info never c.in_ok-quiet.field-0 (success c.args.state.now.options) refl c.in_ok-quiet.ensures.answer }
