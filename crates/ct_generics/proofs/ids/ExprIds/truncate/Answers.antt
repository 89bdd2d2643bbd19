use Rattle.std.proofs.Common.{sym, subst}
use Rattle.ct_generics.specs.Nodes.{AreUnlike}
use Rattle.ct_generics.proofs.IdLemmas.{AreUnlike-take}
use Rattle.ct_generics.proofs.ids.ExprIds.truncate.Goals as goal

pub invariant_of-self : goal.invariant_of-self
invariant_of-self c = subst AreUnlike (sym c.truncate.ensures.keys) (AreUnlike-take c.self.inside.ids.keys c.args.len c.self.invariant)
