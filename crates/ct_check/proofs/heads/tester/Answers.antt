use Rattle.std.proofs.Common.{ap, arith}
use Rattle.ct_names.specs.Outcome.{step}
use Rattle.ct_check.proofs.HeadLemmas.{tester-fewer, tester-more}
use Rattle.ct_sexpr.specs.View.{expressions_of}
use Rattle.ct_names.specs.Answer.{as_it_is}
use Rattle.ct_names.specs.Elaboration.{parts_of, tester}
use Rattle.ct_names.proofs.AnswerLemmas.{stops_along}
use Rattle.ct_names.proofs.PartLemmas.{two_items}
use Rattle.ct_check.proofs.heads.tester.Goals as goal

pub returns-in-empty-clause-value : goal.returns-in-empty-clause-value
returns-in-empty-clause-value c = λ needs. ap (λ o. step o) (tester-fewer c.args.sig.now c.args.items.now (omega arith))

pub returns-in-empty-2-clause-value : goal.returns-in-empty-2-clause-value
returns-in-empty-2-clause-value c = λ needs. ap (λ o. step o) (tester-more c.args.sig.now c.args.items.now (omega arith))

pub returns-in-len2-clause-value : goal.returns-in-len2-clause-value
returns-in-len2-clause-value c = λ needs.
    let d = c.args.sig.now in
    stops_along needs d as_it_is _ _ c.tester_of.result (ap (λ xs. step (tester d (parts_of d (expressions_of xs)))) (two_items c.args.items.now c.is-item.result c.ctor-item.result c.in-len2.len_at_least c.in-len2.len_below c.is-item.is c.ctor-item.is)) (c.tester_of.ensures.value needs)
