use Rattle.std.proofs.Common.{◌≡◌, false, is_some, sym, ap, ◌∙◌}
use Rattle.ct_names.specs.Elaboration.{parts_of}
use Rattle.ct_names.specs.Variables.{find}
use Rattle.ct_check.specs.Heads.{headed_by}
use Rattle.ct_check.proofs.HeadLemmas.{leads_along, unfound, application-operator, application-global}
use Rattle.ct_check.proofs.heads.name_head.Goals as goal

pub returns-in-Some-clause-value : goal.returns-in-Some-clause-value
returns-in-Some-clause-value c = λ needs es n.
    let d = c.args.sig.now in
    let scope = c.args.variables.now in
    let none : is_some (find scope c.args.name.now) ≡ false = unfound c.find.result _ c.find.ensures.found (sym c.is_some.ensures ∙ c.if-is_some.false) in
    leads_along needs d _ _ (λ m h. headed_by m scope h (parts_of m es)) c.operator_head.result
    (λ m grows. application-operator m scope c.args.name.now (parts_of m es) c.in-Some.operator none (sym c.in-Some.ensures.value))
    (c.operator_head.ensures.value needs d scope es n)

pub returns-in-None-clause-value : goal.returns-in-None-clause-value
returns-in-None-clause-value c = λ needs es n.
    let d = c.args.sig.now in
    let scope = c.args.variables.now in
    let none : is_some (find scope c.args.name.now) ≡ false = unfound c.find.result _ c.find.ensures.found (sym c.is_some.ensures ∙ c.if-is_some.false) in
    leads_along needs d _ _ (λ m h. headed_by m scope h (parts_of m es)) c.global_head.result
    (λ m grows. application-global m scope c.args.name.now (parts_of m es) none (sym c.in-None.ensures.value))
    (c.global_head.ensures.value needs scope es n)

pub returns-in-Some-clause-inside : goal.returns-in-Some-clause-inside
returns-in-Some-clause-inside c = c.operator_head.ensures.inside c.args.sig.now

pub returns-in-Some-clause-counted : goal.returns-in-Some-clause-counted
returns-in-Some-clause-counted c = c.operator_head.ensures.counted c.args.sig.now
