use Rattle.std.proofs.Common.{refl}
use Rattle.ct_step.specs.Infos.{info_text}
use Rattle.ct_step.specs.Done.{state_of}
use Rattle.ct_command.specs.Command.{get_info}
use Rattle.ct_step.proofs.AnswerLemmas.{same_text}
use Rattle.ct_step.proofs.DoneLemmas.{answers, never}
use Rattle.ct_step.proofs.settings.get_info.Goals as goal

pub returns : goal.returns
returns c =
    record {
      done = λ number. answers c.args.state.now number (get_info c.args.info) never c.said.result (info_text (state_of c.args.state.now) c.args.info) refl (λ s. same_text s c.said.result _ _ c.in_ok-text.ensures.text (c.said.ensures.answer s));
    }
