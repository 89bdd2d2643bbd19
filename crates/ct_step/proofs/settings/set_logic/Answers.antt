use Rattle.std.proofs.Common.{refl}
use Rattle.ct_command.specs.Command.{set_logic}
use Rattle.ct_step.specs.Logics.{IsLogic}
use Rattle.ct_step.specs.Numbers.{unknown_logic}
use Rattle.ct_step.specs.Step.{success}
use Rattle.ct_step.proofs.CauseLemmas.{no_last}
use Rattle.ct_step.proofs.DoneLemmas.{answers}
use Rattle.ct_step.proofs.settings.set_logic.Goals as goal

pub returns : goal.returns
returns c =
    let known : IsLogic c.args.name.now = c.is_logic.ensures.logic.0 c.if-not-is_logic.false in
    record {
      done = λ number.
          answers c.args.state.now number (set_logic c.args.name.now) (no_last unknown_logic (IsLogic c.args.name.now → ⊥) (λ none. none known)) c.in_ok-quiet.field-0 (success c.args.state.now.options) refl c.in_ok-quiet.ensures.answer;
    }
