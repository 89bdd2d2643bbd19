use Rattle.ct_equivalence.proofs.equivalence.Equivalence.cons.Goals as goal

pub returns : goal.returns
returns c = rw (← c.self.view_is) (record { value = c.cons.ensures.value })
