use Rattle.ct_values.proofs.MinimalLemmas.{one_minimal, fewest_nodes}
use Rattle.ct_values.proofs.theorems.minimal_graph.Goals as goal

pub returns-clause-one : goal.returns-clause-one
returns-clause-one c = one_minimal

pub returns-clause-fewest : goal.returns-clause-fewest
returns-clause-fewest c = fewest_nodes
