use Rattle.ct_terms.proofs.SortLemmas.{HasSort-same, HasSort-append, HasSort-extends, AreSorted-extends, AreSorted-declared}
use Rattle.ct_terms.proofs.LiteralLemmas.{literal_of-longer}
use Rattle.ct_terms.proofs.theorems.one_lasting_sort.Goals as goal

pub returns-clause-one : goal.returns-clause-one
returns-clause-one c = HasSort-same

pub returns-clause-lasting : goal.returns-clause-lasting
returns-clause-lasting c = HasSort-extends

pub returns-clause-table : goal.returns-clause-table
returns-clause-table c = AreSorted-extends

pub returns-clause-declared : goal.returns-clause-declared
returns-clause-declared c = AreSorted-declared

pub returns-clause-longer : goal.returns-clause-longer
returns-clause-longer c = HasSort-append

pub returns-clause-literal : goal.returns-clause-literal
returns-clause-literal c = literal_of-longer
