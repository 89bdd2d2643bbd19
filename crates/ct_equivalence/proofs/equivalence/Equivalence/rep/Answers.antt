use Rattle.std.proofs.Common.{length, ap, arith}
use Rattle.ct_equivalence.specs.Grouping.{Groupings}
use Rattle.ct_equivalence.proofs.equivalence.Equivalence.rep.Goals as goal

pub rep-requires : goal.rep-requires
rep-requires c = record { inside = omega (arith, c.requires.inside, ap (λ (gs : Groupings). length gs.now.reps) c.self.view_is) }

pub returns : goal.returns
returns c = rw (← c.self.view_is) (record { value = c.rep.ensures.value; own = c.rep.ensures.own })
