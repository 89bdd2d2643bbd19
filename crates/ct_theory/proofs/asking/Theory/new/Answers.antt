use Rattle.ct_theory.proofs.ReadyLemmas.{HaveInCommon-none}
use Rattle.ct_theory.proofs.asking.Theory.new.Goals as goal

pub consult-requires-clause-shared : goal.consult-requires-clause-shared
consult-requires-clause-shared c = HaveInCommon-none _ _
