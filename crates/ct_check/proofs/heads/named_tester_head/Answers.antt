use Rattle.std.proofs.Common.{sym, ap, ◌∙◌}
use Rattle.ct_names.specs.Elaboration.{tested_by_name, tested_term, parts_of}
use Rattle.ct_names.proofs.LastingLemmas.{tester_same}
use Rattle.ct_check.specs.Heads.{headed_by}
use Rattle.ct_check.proofs.HeadLemmas.{leads_along}
use Rattle.ct_check.proofs.heads.named_tester_head.Goals as goal

pub returns-in-Some-clause-value : goal.returns-in-Some-clause-value
returns-in-Some-clause-value c = λ needs scope es n.
    let d = c.args.sig.now in
    leads_along needs d _ (λ m. tested_term m scope c.in-Some.ctor (parts_of m es)) (λ m h. headed_by m scope h (parts_of m es)) c.tester_head.result
    (λ m grows. ap (λ x. tested_by_name m scope x (parts_of m es)) (tester_same m d grows c.sorts.ensures.consistent c.args.name.now ∙ sym c.in-Some.ensures.value))
    (c.tester_head.ensures.value needs d scope es c.in-Some.ensures.inside n)

pub returns-in-Some-clause-inside : goal.returns-in-Some-clause-inside
returns-in-Some-clause-inside c = c.tester_head.ensures.inside c.args.sig.now c.in-Some.ensures.inside

pub returns-in-Some-clause-counted : goal.returns-in-Some-clause-counted
returns-in-Some-clause-counted c = c.tester_head.ensures.counted c.args.sig.now
