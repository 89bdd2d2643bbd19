use Rattle.ct_sorts.proofs.StructureLemmas.{own_constructors, of_their_sorts, own_selectors, of_their_constructors}
use Rattle.ct_sorts.proofs.theorems.structure.Goals as goal

pub returns-clause-own_constructors : goal.returns-clause-own_constructors
returns-clause-own_constructors c = own_constructors

pub returns-clause-of_their_sorts : goal.returns-clause-of_their_sorts
returns-clause-of_their_sorts c = of_their_sorts

pub returns-clause-own_selectors : goal.returns-clause-own_selectors
returns-clause-own_selectors c = own_selectors

pub returns-clause-of_their_constructors : goal.returns-clause-of_their_constructors
returns-clause-of_their_constructors c = of_their_constructors
