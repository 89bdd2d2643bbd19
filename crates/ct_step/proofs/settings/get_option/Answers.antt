use Rattle.std.proofs.Common.{ℕ, List, ◌∙◌, refl, ap}
use Rattle.ct_step.specs.Options.{value_text}
use Rattle.ct_command.specs.Command.{get_option}
use Rattle.ct_step.specs.Done.{channel_in}
use Rattle.ct_step.proofs.AnswerLemmas.{same_text}
use Rattle.ct_step.proofs.DoneLemmas.{answers, never}
use Rattle.ct_step.proofs.settings.get_option.Goals as goal

pub returns : goal.returns
returns c =
    let old = c.args.state.now in
    let is = c.in_ok-text.ensures.text ∙ ap (λ (text : List ℕ). value_text old.options text c.args.name) c.diagnostic_output-diagnostic.ensures.value in
    record {
      done = λ number. answers c.args.state.now number (get_option c.args.name) never c.said.result (value_text old.options (channel_in old.diagnostic_output) c.args.name) refl (λ s. same_text s c.said.result _ _ is (c.said.ensures.answer s));
    }
