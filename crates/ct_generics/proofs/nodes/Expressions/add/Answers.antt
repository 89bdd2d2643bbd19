use Rattle.ct_generics.proofs.NodeLemmas.{AreOrdered-inserted, AreSingle-inserted, Stay-inserted}
use Rattle.ct_generics.proofs.nodes.Expressions.add.Goals as goal

pub invariant_of-self-2 : goal.invariant_of-self-2
invariant_of-self-2 c =
    let old = c.self.inside.nodes.keys in
    let new = c.insert_full.new.self.keys in
    (AreOrdered-inserted old new c.args.node c.in_ok-index.ensures.keys (rw (← c.self.view_is) at c.requires.below) c.self.invariant.0, AreSingle-inserted old new c.args.node c.in_ok-index.ensures.keys c.self.invariant.1)

pub returns-clause-stay : goal.returns-clause-stay
returns-clause-stay c = rw (← c.self.view_is) (Stay-inserted c.self.inside.nodes.keys c.insert_full.new.self.keys c.args.node c.in_ok-index.ensures.keys)
