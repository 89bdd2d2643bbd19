use Rattle.std.proofs.Common.{length, ap, arith}
use Rattle.ct_congr.specs.State.{State}
use Rattle.ct_congr.proofs.classes.Classes.rep.Goals as goal

pub rep-requires : goal.rep-requires
rep-requires c = record { inside = omega (arith, c.requires.inside, ap (λ (s : State). length s.terms) c.self.view_is, c.self.invariant.0.sound.long) }

pub returns : goal.returns
returns c = rw (← c.self.view_is) (record { value = c.rep.ensures.value; own = c.rep.ensures.own })
