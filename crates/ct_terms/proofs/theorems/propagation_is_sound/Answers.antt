use Rattle.ct_terms.proofs.PropagationLemmas.{Rup-sound, Rup-longer, IsUnit-one}
use Rattle.ct_terms.proofs.theorems.propagation_is_sound.Goals as goal

pub returns-clause-sound : goal.returns-clause-sound
returns-clause-sound c = λ clauses hints clause value rup hold. Rup-sound value clauses hints clause rup hold

pub returns-clause-one_unit : goal.returns-clause-one_unit
returns-clause-one_unit c = IsUnit-one

pub returns-clause-longer : goal.returns-clause-longer
returns-clause-longer c = Rup-longer
