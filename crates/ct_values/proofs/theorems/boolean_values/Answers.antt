use Rattle.ct_values.proofs.BooleanLemmas.{bool_truth, truth_agrees}
use Rattle.ct_values.proofs.theorems.boolean_values.Goals as goal

pub returns-clause-truth : goal.returns-clause-truth
returns-clause-truth c = λ d g v consistent fits sorted. bool_truth d g v consistent (c.structure.ensures.of_their_sorts d consistent) fits sorted

pub returns-clause-same : goal.returns-clause-same
returns-clause-same c = truth_agrees
