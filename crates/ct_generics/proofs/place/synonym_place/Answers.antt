use Rattle.std.proofs.Common.{refl, sym}
use Rattle.ct_lemmas.proofs.Pairs.{AllZip-at_left}
use Rattle.ct_generics.specs.Stored.{IsStoredSynonym}
use Rattle.ct_generics.proofs.ReachedLemmas.{AllZip-missing}
use Rattle.ct_generics.proofs.place.synonym_place.Goals as goal

pub returns-in-Some-clause-some : goal.returns-in-Some-clause-some
returns-in-Some-clause-some c d is =
    let at = rw c.as_slice.ensures.value at c.in-Some.ensures.found in
    let found = AllZip-at_left IsStoredSynonym c.args.g.now.synonyms d.synonyms c.args.i c.in-Some.stored.now is.stored_synonyms at in
    (found.0, found.1, (c.in-Some.stored.now, found.0, at, found.2, refl, sym found.2.params_are))

pub returns-in-None-clause-none : goal.returns-in-None-clause-none
returns-in-None-clause-none c d is =
    AllZip-missing IsStoredSynonym c.args.g.now.synonyms d.synonyms c.args.i is.stored_synonyms (rw c.as_slice.ensures.value at c.in-None.ensures.none)
