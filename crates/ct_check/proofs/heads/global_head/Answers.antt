use Rattle.std.proofs.Common.{None, sym, ap, ◌∙◌}
use Rattle.ct_names.specs.Elaboration.{global, applied_symbol, tested_by_name, parts_of}
use Rattle.ct_names.specs.Symbols.{tester_named}
use Rattle.ct_names.proofs.LastingLemmas.{symbol_same}
use Rattle.ct_check.specs.Heads.{headed_by}
use Rattle.ct_check.proofs.HeadLemmas.{leads_along}
use Rattle.ct_check.proofs.heads.global_head.Goals as goal

pub returns-in-Some-clause-value : goal.returns-in-Some-clause-value
returns-in-Some-clause-value c = λ needs scope es n.
    let d = c.args.sig.now in
    leads_along needs d _ (λ m. applied_symbol m scope c.in-Some.symbol (parts_of m es)) (λ m h. headed_by m scope h (parts_of m es)) c.symbol_head.result
    (λ m grows. ap (λ x. global m scope c.args.name.now None x (parts_of m es)) (symbol_same m d grows c.sorts.ensures.consistent c.args.name.now ∙ sym c.in-Some.ensures.value))
    (c.symbol_head.ensures.value needs scope es n)

pub returns-in-None-clause-value : goal.returns-in-None-clause-value
returns-in-None-clause-value c = λ needs scope es n.
    let d = c.args.sig.now in
    leads_along needs d _ (λ m. tested_by_name m scope (tester_named m c.args.name.now) (parts_of m es)) (λ m h. headed_by m scope h (parts_of m es)) c.named_tester_head.result
    (λ m grows. ap (λ x. global m scope c.args.name.now None x (parts_of m es)) (symbol_same m d grows c.sorts.ensures.consistent c.args.name.now ∙ sym c.in-None.ensures.value))
    (c.named_tester_head.ensures.value needs scope es n)
