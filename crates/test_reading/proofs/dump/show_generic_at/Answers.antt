use Rattle.std.proofs.Common.{◌<◌, sym, subst}
use Rattle.test_reading.proofs.dump.show_generic_at.Goals as goal

pub show_generic_ctor-requires-clause-below : goal.show_generic_ctor-requires-clause-below
show_generic_ctor-requires-clause-below c head is = subst (λ n. c.loop-i.i < n) (c.gen_ctors-i-end.ensures.count head is) c.loop-i-test.true
