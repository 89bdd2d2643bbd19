use Rattle.ct_sexpr.specs.View.{expression_of}
use Rattle.ct_step.proofs.DoneLemmas.{sets_channel}
use Rattle.ct_step.proofs.settings.set_diagnostic_output.Goals as goal

pub returns-in-Ok : goal.returns-in-Ok
returns-in-Ok c =
    record {
      done = λ number. sets_channel c.args.state.now number (expression_of c.args.expr.now) c.in-Ok.text c.in_ok-answer.answer c.in-Ok.ensures.text c.in_ok-answer.ensures.answer;
    }
