use Rattle.ct_generics.proofs.FoundLemmas.{node_last}
use Rattle.ct_generics.proofs.NodeLemmas.{AreOrdered-inserted, AreSingle-inserted}
use Rattle.ct_generics.proofs.nodes.Expressions.push.Goals as goal

pub invariant_of-self-2 : goal.invariant_of-self-2
invariant_of-self-2 c =
    let old = c.self.inside.nodes.keys in
    let new = c.insert.new.self.keys in
    (AreOrdered-inserted old new c.args.node c.in_ok-insert.ensures.keys (rw (← c.self.view_is) at c.requires.below) c.self.invariant.0, AreSingle-inserted old new c.args.node c.in_ok-insert.ensures.keys c.self.invariant.1)

pub returns-clause-ok : goal.returns-clause-ok
returns-clause-ok c = rw (← c.self.view_is) (node_last c.self.inside.nodes.keys c.insert.new.self.keys c.args.node c.in_ok-insert.ensures.keys (rw (← c.self.view_is) at c.requires.fresh))
