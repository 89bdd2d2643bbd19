use Rattle.ct_values.proofs.LastingLemmas.{node_longer, node_lasting, graph_lasting, well_formed_lasting, fits_closed}
use Rattle.ct_values.proofs.theorems.fitting_graphs.Goals as goal

pub returns-clause-closed : goal.returns-clause-closed
returns-clause-closed c = fits_closed

pub returns-clause-node_longer : goal.returns-clause-node_longer
returns-clause-node_longer c = node_longer

pub returns-clause-node_lasting : goal.returns-clause-node_lasting
returns-clause-node_lasting c = λ later earlier g n s more has. node_lasting later earlier more g n s has

pub returns-clause-lasting : goal.returns-clause-lasting
returns-clause-lasting c = λ later earlier g more fits. graph_lasting later earlier more g fits

pub returns-clause-well_formed_lasting : goal.returns-clause-well_formed_lasting
returns-clause-well_formed_lasting c = λ later earlier g consistent more formed.
    well_formed_lasting later earlier more g (c.structure.ensures.of_their_sorts earlier consistent) formed
