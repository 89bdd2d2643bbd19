use Rattle.ct_generics.proofs.SpineLemmas.{AreUnlike-inserted, Stay-inserted_id, only-inserted}
use Rattle.ct_generics.proofs.ids.ExprIds.insert.Goals as goal

pub invariant_of-self-2 : goal.invariant_of-self-2
invariant_of-self-2 c = AreUnlike-inserted c.self.inside.ids.keys c.insert_full.new.self.keys c.args.id c.in_ok-index.ensures.keys c.self.invariant

pub returns-clause-stay : goal.returns-clause-stay
returns-clause-stay c = rw (← c.self.view_is) (Stay-inserted_id c.self.inside.ids.keys c.insert_full.new.self.keys c.args.id c.in_ok-index.ensures.keys)

pub returns-clause-only : goal.returns-clause-only
returns-clause-only c = rw (← c.self.view_is) (only-inserted c.self.inside.ids.keys c.insert_full.new.self.keys c.args.id c.in_ok-index.ensures.keys)
