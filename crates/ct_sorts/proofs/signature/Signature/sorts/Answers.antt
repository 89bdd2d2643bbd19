use Rattle.std.proofs.Common.{subst, refl, arith}
use Rattle.std.proofs.lemmas.List.{length-map}
use Rattle.ct_sorts.specs.Declarations.{start}
use Rattle.ct_sorts.specs.Stored.{sort_of_entry}
use Rattle.ct_sorts.proofs.ConsistentLemmas.{begins}
use Rattle.ct_sorts.specs.Consistent.{IsConsistent}
use Rattle.ct_sorts.proofs.signature.Signature.sorts.Goals as goal

pub returns-clause-consistent : goal.returns-clause-consistent
returns-clause-consistent c = subst IsConsistent c.self.view_is c.self.invariant.consistent

pub returns-clause-has_bool : goal.returns-clause-has_bool
returns-clause-has_bool c = omega (arith, begins 1 _ start.sorts c.self.invariant.consistent.first_sort refl, length-map c.self.inside.tables.sorts sort_of_entry, c.len.ensures.len)
