use Rattle.std.proofs.Common.{ap}
use Rattle.ct_lemmas.proofs.Pairs.{AllZip-at_left}
use Rattle.ct_generics.specs.Stored.{IsStored}
use Rattle.ct_generics.specs.Resolved.{a_head}
use Rattle.ct_generics.proofs.ReachedLemmas.{AllZip-missing}
use Rattle.ct_generics.proofs.place.head_place.Goals as goal

pub returns-in-Some-clause-some : goal.returns-in-Some-clause-some
returns-in-Some-clause-some c d is =
    let at = rw c.as_slice.ensures.value at c.in-Some.ensures.found in
    let found = AllZip-at_left IsStored c.args.g.now.heads d.heads c.args.h c.in-Some.stored.now is.stored at in
    (found.0, found.1, ap (a_head c.args.h) (found.2.params_are))

pub returns-in-None-clause-none : goal.returns-in-None-clause-none
returns-in-None-clause-none c d is =
    AllZip-missing IsStored c.args.g.now.heads d.heads c.args.h is.stored (rw c.as_slice.ensures.value at c.in-None.ensures.none)
