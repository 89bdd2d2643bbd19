use Rattle.ct_names.proofs.AddLemmas.{at_found, origin_inside, not_there}
use Rattle.ct_names.proofs.sorts.found_at.Goals as goal

pub returns-in-Some-clause-value : goal.returns-in-Some-clause-value
returns-in-Some-clause-value c = λ e is. at_found c.args.sig.now c.sorts.ensures.consistent c.args.g c.args.args.now c.in-Some.sort e c.in-Some.ensures.some is

pub returns-in-Some-clause-inside : goal.returns-in-Some-clause-inside
returns-in-Some-clause-inside c =
    let found = c.in-Some.ensures.some in
    origin_inside c.args.sig.now c.sorts.ensures.consistent c.in-Some.sort found.0 found.2

pub returns-in-None-clause-value : goal.returns-in-None-clause-value
returns-in-None-clause-value c = λ e is. (e, tt, not_there c.args.sig.now e (λ s at. c.in-None.ensures.none e s is at))
