use Rattle.std.proofs.Common.{length, ap, arith}
use Rattle.ct_congr.specs.State.{State}
use Rattle.ct_congr.proofs.classes.Classes.class.Goals as goal

pub class-requires : goal.class-requires
class-requires c = record { inside = omega (arith, c.requires.inside, ap (λ (s : State). length s.terms) c.self.view_is, c.self.invariant.0.sound.long) }

pub returns : goal.returns
returns c = rw (← c.self.view_is) (record {
  members = λ r at.
      let class = c.class.ensures.members r at in
      record { all = class.all; only = class.only; once = class.once };
})
