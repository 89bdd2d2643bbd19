use Rattle.std.proofs.Common.{refl}
use Rattle.ct_command.specs.Command.{unsupported}
use Rattle.ct_step.specs.Infos.{unsupported_text}
use Rattle.ct_step.proofs.AnswerLemmas.{same_text}
use Rattle.ct_step.proofs.DoneLemmas.{answers, never}
use Rattle.ct_step.proofs.settings.unsupported.Goals as goal

pub returns : goal.returns
returns c =
    record {
      done = λ state number. answers state number unsupported never c.said.result unsupported_text refl (λ s. same_text s c.said.result _ _ c.in_ok-text.ensures.items (c.said.ensures.answer s));
    }
