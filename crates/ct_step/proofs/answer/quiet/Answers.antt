use Rattle.ct_step.proofs.AnswerLemmas.{same_text}
use Rattle.ct_step.proofs.answer.quiet.Goals as goal

pub returns : goal.returns
returns c = record { answer = λ s. same_text s c.said.result _ _ c.in_ok-text.ensures.text (c.said.ensures.answer s) }
