use Rattle.ct_values.proofs.RepresentativeLemmas.{one_first, IsRepresentative-grown, IsRepresentative-same}
use Rattle.ct_values.proofs.theorems.representative_nodes.Goals as goal

pub returns-clause-one : goal.returns-clause-one
returns-clause-one c = one_first

pub returns-clause-lasting : goal.returns-clause-lasting
returns-clause-lasting c = IsRepresentative-grown

pub returns-clause-same : goal.returns-clause-same
returns-clause-same c = IsRepresentative-same
