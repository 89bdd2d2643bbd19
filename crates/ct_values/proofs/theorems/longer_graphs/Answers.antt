use Rattle.ct_values.proofs.GraphLemmas.{head_of-grown, children_of-grown, over-grown, children_are_over}
use Rattle.ct_values.proofs.theorems.longer_graphs.Goals as goal

pub returns-clause-head : goal.returns-clause-head
returns-clause-head c = head_of-grown

pub returns-clause-children : goal.returns-clause-children
returns-clause-children c = children_of-grown

pub returns-clause-over : goal.returns-clause-over
returns-clause-over c = over-grown

pub returns-clause-children_over : goal.returns-clause-children_over
returns-clause-children_over c = children_are_over
