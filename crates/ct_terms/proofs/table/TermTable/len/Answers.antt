use Rattle.ct_terms.proofs.SortLemmas.{AreSorted-extends}
use Rattle.ct_terms.proofs.table.TermTable.len.Goals as goal

pub returns-clause-single : goal.returns-clause-single
returns-clause-single c = rw (← c.self.view_is) c.self.invariant.0.single

pub returns-clause-negates : goal.returns-clause-negates
returns-clause-negates c = rw (← c.self.view_is) c.self.invariant.0.negates

pub returns-clause-lasting : goal.returns-clause-lasting
returns-clause-lasting c = λ later earlier extends all. AreSorted-extends later earlier c.args.self.now extends all

pub returns-clause-ordered : goal.returns-clause-ordered
returns-clause-ordered c = rw (← c.self.view_is) c.self.invariant.0.ordered
