use Rattle.std.proofs.Common.{subst}
use Rattle.ct_generics.specs.Names.{AreDistinct}
use Rattle.ct_generics.proofs.names.Names.len.Goals as goal

pub returns-clause-distinct : goal.returns-clause-distinct
returns-clause-distinct c = subst AreDistinct c.self.view_is c.self.invariant
