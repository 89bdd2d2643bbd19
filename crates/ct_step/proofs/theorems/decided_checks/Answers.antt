use Rattle.ct_step.proofs.VerdictLemmas.{decided_text}
use Rattle.ct_step.proofs.theorems.decided_checks.Goals as goal

pub returns : goal.returns
returns c = record { decided = decided_text }
