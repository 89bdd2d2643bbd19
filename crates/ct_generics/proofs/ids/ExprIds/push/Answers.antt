use Rattle.ct_generics.proofs.SpineLemmas.{AreUnlike-inserted}
use Rattle.ct_generics.proofs.IdLemmas.{inserted-last}
use Rattle.ct_generics.proofs.ids.ExprIds.push.Goals as goal

pub invariant_of-self-2 : goal.invariant_of-self-2
invariant_of-self-2 c = AreUnlike-inserted c.self.inside.ids.keys c.insert.new.self.keys c.args.id c.in_ok-insert.ensures.keys c.self.invariant

pub returns-clause-ok : goal.returns-clause-ok
returns-clause-ok c = rw (← c.self.view_is) (inserted-last c.self.inside.ids.keys c.insert.new.self.keys c.args.id c.in_ok-insert.ensures.keys (rw (← c.self.view_is) at c.requires.fresh))
