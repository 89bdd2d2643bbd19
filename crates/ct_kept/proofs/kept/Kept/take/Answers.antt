use Rattle.ct_kept.proofs.kept.Kept.take.Goals as goal

pub invariant_of-self : goal.invariant_of-self
invariant_of-self c = record { few = c.in-Ok.ensures.few; over = c.in-Ok.ensures.over c.self.invariant.over }
