use Rattle.std.proofs.Common.{◌∙◌, refl}
use Rattle.ct_sexpr.specs.Written.{written}
use Rattle.ct_sexpr.specs.View.{expression_of}
use Rattle.ct_command.specs.Command.{echo}
use Rattle.ct_step.proofs.AnswerLemmas.{same_text}
use Rattle.ct_step.proofs.DoneLemmas.{answers, never}
use Rattle.ct_step.proofs.settings.echo.Goals as goal

pub returns-in-Ok : goal.returns-in-Ok
returns-in-Ok c =
    record {
      done = λ state number. answers state number (echo (expression_of c.args.expr.now)) never c.said.result (written (expression_of c.args.expr.now)) refl (λ s. same_text s c.said.result _ _ (c.into_vec.ensures.value ∙ c.in-Ok.ensures.text) (c.said.ensures.answer s));
    }
