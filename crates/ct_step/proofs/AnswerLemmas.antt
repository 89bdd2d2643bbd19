-- Answers and their texts.
use Rattle.std.proofs.Common.{◌≡◌, ℕ, List, subst}
use Rattle.ct_step.specs.declared.answer.Answer.{Answer}
use Rattle.ct_step.specs.State.{State}
use Rattle.ct_step.specs.Step.{said}
use Rattle.ct_step.specs.Done.{IsAnswer}

-- the answer of a text is that of an equal text
pub same_text : (s : State) (a : Answer) (text other : List ℕ) → text ≡ other → IsAnswer (said s text) a → IsAnswer (said s other) a
same_text s a text other same answer = subst (λ (t : List ℕ). IsAnswer (said s t) a) same answer
