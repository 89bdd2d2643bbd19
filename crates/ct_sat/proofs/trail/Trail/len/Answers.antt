use Rattle.ct_sat.proofs.TrailLemmas.{IsWhole-from}
use Rattle.ct_sat.proofs.trail.Trail.len.Goals as goal

pub returns-clause-whole : goal.returns-clause-whole
returns-clause-whole c = rw (← c.self.view_is) (IsWhole-from c.self.inside.literals.items c.self.inside.reasons.items c.self.inside.indices.items c.self.inside.decided.items c.self.invariant.0 c.self.invariant.1)
