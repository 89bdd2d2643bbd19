use Rattle.ct_lemmas.proofs.Pairs.{AllZip-at_left}
use Rattle.ct_generics.specs.Stored.{IsStored}
use Rattle.ct_generics.proofs.ReachedLemmas.{IfSome-map, IfNone-map, AllZip-missing}
use Rattle.ct_generics.proofs.vertices.stored_at.Goals as goal

pub returns-in-Some-clause-some : goal.returns-in-Some-clause-some
returns-in-Some-clause-some c =
    rw c.in-Some.is (IfSome-map c.at_index.result _ _ (λ s at hs all. AllZip-at_left IsStored c.args.heads.now hs c.in-Some.h.0 s.now all at) c.at_index.ensures.found)

pub returns-in-Some-clause-none : goal.returns-in-Some-clause-none
returns-in-Some-clause-none c =
    rw c.in-Some.is (IfNone-map c.at_index.result _ _ (λ at hs all. AllZip-missing IsStored c.args.heads.now hs c.in-Some.h.0 all at) c.at_index.ensures.none)
