use Rattle.std.proofs.Common.{sym, subst}
use Rattle.ct_generics.specs.Nodes.{AreOrdered, AreSingle}
use Rattle.ct_generics.proofs.IdLemmas.{AreOrdered-take, AreSingle-take}
use Rattle.ct_generics.proofs.nodes.Expressions.truncate.Goals as goal

pub invariant_of-self : goal.invariant_of-self
invariant_of-self c =
    let nodes = c.self.inside.nodes.keys in
    (subst AreOrdered (sym c.truncate.ensures.keys) (AreOrdered-take nodes c.args.len c.self.invariant.0), subst AreSingle (sym c.truncate.ensures.keys) (AreSingle-take nodes c.args.len c.self.invariant.1))
