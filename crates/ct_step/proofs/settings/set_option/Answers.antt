use Rattle.std.proofs.Common.{◌≡◌, ◌≢◌, true}
use Rattle.ct_stack.specs.Stack.{first_stack}
use Rattle.ct_step.specs.Numbers.{not_now}
use Rattle.ct_step.specs.Options.{sets_global}
use Rattle.ct_step.proofs.CauseLemmas.{no_last, not_when}
use Rattle.ct_step.proofs.DoneLemmas.{sets}
use Rattle.ct_step.proofs.settings.set_option.Goals as goal

pub returns : goal.returns
returns c =
    record {
      done = λ number.
          sets c.args.state.now number c.args.setting c.with_setting-options.result c.in_ok-answer.answer
          (no_last not_now ((sets_global c.args.setting ≡ true) × (c.args.state.now.stack ≢ first_stack)) (not_when c.comes_late.result ((sets_global c.args.setting ≡ true) × (c.args.state.now.stack ≢ first_stack)) c.if-comes_late.false c.comes_late.ensures.late))
          c.with_setting-options.ensures.value c.in_ok-answer.ensures.answer;
    }
