use Rattle.std.proofs.Common.{◌≡◌, subst, ◌∙◌, arith}
use Rattle.ct_instances.specs.Among.{IsNamedCtor}
use Rattle.ct_check.proofs.HeadCases.{tester_plain_later}
use Rattle.ct_check.proofs.heads.tester_head.Goals as goal

pub returns-in-Generic-clause-value : goal.returns-in-Generic-clause-value
returns-in-Generic-clause-value c = λ needs d scope es is n. rw c.in-Generic.is (c.part_head.ensures.value needs d scope es n)

pub returns-in-Generic-clause-inside : goal.returns-in-Generic-clause-inside
returns-in-Generic-clause-inside c = λ d is. c.part_head.ensures.inside d (subst (IsNamedCtor d) c.in-Generic.is is)

pub returns-else-args-ne1-clause-value : goal.returns-else-args-ne1-clause-value
returns-else-args-ne1-clause-value c = λ needs d scope es is n later grows.
    let one : c.args.args ≡ 1 = omega (arith, c.if-args-ne1.false) in
    rw c.in-Plain.is (tester_plain_later later d grows scope c.in-Plain.c es (subst (IsNamedCtor d) c.in-Plain.is is) (n ∙ one))
