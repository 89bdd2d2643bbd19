use Rattle.ct_generics.proofs.FindingLemmas.{AreFindings-own, alone-large}
use Rattle.ct_generics.proofs.findings.find_out_together.Goals as goal

pub returns-in-None-clause-large : goal.returns-in-None-clause-large
returns-in-None-clause-large c hs all one =
    let own = c.in_ok-roots.ensures.own hs all in
    alone-large c.args.from c.args.end hs own.0 one own.2 ((rw c.in-None.is at c.in_ok-whole.ensures.many) hs own.0 all (rw c.as_slice.ensures.value own.1))

pub find_out_in-requires-clause-whole : goal.find_out_in-requires-clause-whole
find_out_in-requires-clause-whole c =
    let hs = c.requires.stored in
    let own = c.in_ok-roots.ensures.own hs.0 hs.1 in
    (hs.0, own.0, hs.1, (rw c.in-Some.is at c.in_ok-whole.ensures.whole) hs.0 own.0 hs.1 (rw c.as_slice.ensures.value own.1))

pub returns-clause-found : goal.returns-clause-found
returns-clause-found c hs all =
    let own = c.in_ok-roots.ensures.own hs all in
    let whole = (rw c.in-Some.is at c.in_ok-whole.ensures.whole) hs own.0 all (rw c.as_slice.ensures.value own.1) in
    let f = c.in_ok-found-in-Some in
    AreFindings-own c.args.from c.args.end hs own.0 f.found own.2 (f.ensures.size hs own.0 all whole) (f.ensures.mixing hs own.0 all whole) (f.ensures.founding hs own.0 all whole)
