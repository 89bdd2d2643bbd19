use Rattle.std.proofs.Common.{◌-◌, length, take, drop, sym, ap, ◌∙◌}
use Rattle.std.proofs.lemmas.Result.{err_from_is_err_and}
use Rattle.ct_lemmas.proofs.Prefixes.{rest-item}
use Rattle.ct_sexpr.specs.View.{expression_of, expressions_of}
use Rattle.ct_names.specs.Answer.{as_it_is}
use Rattle.ct_names.specs.Outcome.{and_then, step}
use Rattle.ct_names.specs.Elaboration.{part_of, parts_of, qualified, qualified_symbol, applied_symbol, tested_term, tester}
use Rattle.ct_names.proofs.NeedLemmas.{reaches_first, reaches_same}
use Rattle.ct_check.specs.Heads.{headed_by}
use Rattle.ct_check.proofs.HeadLemmas.{leads_along, leads_stop, qualified-tester, qualified-as}
use Rattle.ct_check.proofs.HeadCases.{tester_later, as_later}
use Rattle.ct_check.proofs.heads.list_head.Goals as goal

pub returns-then-is_word-clause-value : goal.returns-then-is_word-clause-value
returns-then-is_word-clause-value c = λ es n.
    let d = c.args.sig.now in
    let scope = c.args.variables.now in
    let items = c.args.items.now in
    let others = take (length items - 1) (drop 1 items) in
    let k = c.in_ok-ctor.ctor in
    leads_along c.args.needs d (λ m. qualified m scope (parts_of m (expressions_of items)) (parts_of m es)) (λ m. tested_term m scope k (parts_of m es)) (λ m h. headed_by m scope h (parts_of m es)) c.tester_head.result
    (λ m grows. ap (λ xs. qualified m scope (parts_of m (expressions_of xs)) (parts_of m es)) (rest-item items c.word-item.result c.in-len1-up.len_at_least c.word-item.is)
    ∙ qualified-tester m scope (part_of m (expression_of c.word-item.result)) (parts_of m (expressions_of others)) (parts_of m es) (sym (c.if-is_word.ensures.word m))
    ∙ tester_later m d grows c.sorts.ensures.consistent scope (expressions_of others) es k (c.in_ok-ctor.ensures.value c.args.needs))
    (c.tester_head.ensures.value c.args.needs d scope es c.in_ok-ctor.ensures.inside n)

pub returns-then-is_word-2-clause-value : goal.returns-then-is_word-2-clause-value
returns-then-is_word-2-clause-value c = λ es n.
    let d = c.qualified_symbol.new.sig in
    let scope = c.args.variables.now in
    let items = c.args.items.now in
    let others = take (length items - 1) (drop 1 items) in
    let s = c.in_ok-symbol.symbol in
    leads_along c.args.needs d (λ m. qualified m scope (parts_of m (expressions_of items)) (parts_of m es)) (λ m. applied_symbol m scope s (parts_of m es)) (λ m h. headed_by m scope h (parts_of m es)) c.symbol_head.result
    (λ m grows. ap (λ xs. qualified m scope (parts_of m (expressions_of xs)) (parts_of m es)) (rest-item items c.word-item.result c.in-len1-up.len_at_least c.word-item.is)
    ∙ qualified-as m scope (part_of m (expression_of c.word-item.result)) (parts_of m (expressions_of others)) (parts_of m es) (sym (c.if-is_word.ensures.word m)) (sym (c.if-is_word-2.ensures.word m))
    ∙ as_later m d grows c.sorts-then-is_word-2.ensures.consistent scope (expressions_of others) es s c.in_ok-symbol.ensures.value)
    (c.symbol_head.ensures.value c.args.needs scope es n)

pub returns-then-is_word-2-clause-reaches : goal.returns-then-is_word-2-clause-reaches
returns-then-is_word-2-clause-reaches c = λ es.
    let scope = c.args.variables.now in
    let items = c.args.items.now in
    let others = take (length items - 1) (drop 1 items) in
    reaches_same (λ m. and_then (qualified_symbol m scope (parts_of m (expressions_of others))) (λ s. applied_symbol m scope s (parts_of m es))) (λ m. qualified m scope (parts_of m (expressions_of items)) (parts_of m es)) c.args.sig.now c.qualified_symbol.new.sig
    (λ m grows. ap (λ xs. qualified m scope (parts_of m (expressions_of xs)) (parts_of m es)) (rest-item items c.word-item.result c.in-len1-up.len_at_least c.word-item.is)
    ∙ qualified-as m scope (part_of m (expression_of c.word-item.result)) (parts_of m (expressions_of others)) (parts_of m es) (sym (c.if-is_word.ensures.word m)) (sym (c.if-is_word-2.ensures.word m)))
    (reaches_first (λ m. qualified_symbol m scope (parts_of m (expressions_of others))) (λ m s. applied_symbol m scope s (parts_of m es)) c.args.sig.now c.qualified_symbol.new.sig c.in_ok-symbol.ensures.reaches)

pub returns-in_err-symbol-clause-reaches : goal.returns-in_err-symbol-clause-reaches
returns-in_err-symbol-clause-reaches c = λ es.
    let scope = c.args.variables.now in
    let items = c.args.items.now in
    let others = take (length items - 1) (drop 1 items) in
    reaches_same (λ m. and_then (qualified_symbol m scope (parts_of m (expressions_of others))) (λ s. applied_symbol m scope s (parts_of m es))) (λ m. qualified m scope (parts_of m (expressions_of items)) (parts_of m es)) c.args.sig.now c.qualified_symbol.new.sig
    (λ m grows. ap (λ xs. qualified m scope (parts_of m (expressions_of xs)) (parts_of m es)) (rest-item items c.word-item.result c.in-len1-up.len_at_least c.word-item.is)
    ∙ qualified-as m scope (part_of m (expression_of c.word-item.result)) (parts_of m (expressions_of others)) (parts_of m es) (sym (c.if-is_word.ensures.word m)) (sym (c.if-is_word-2.ensures.word m)))
    (reaches_first (λ m. qualified_symbol m scope (parts_of m (expressions_of others))) (λ m s. applied_symbol m scope s (parts_of m es)) c.args.sig.now c.qualified_symbol.new.sig c.in_err-symbol.ensures.reaches)

pub returns-then-is_word-clause-inside : goal.returns-then-is_word-clause-inside
returns-then-is_word-clause-inside c = c.tester_head.ensures.inside c.args.sig.now c.in_ok-ctor.ensures.inside

pub returns-in_err-ctor-clause-value : goal.returns-in_err-ctor-clause-value
returns-in_err-ctor-clause-value c = λ es n.
    let d = c.args.sig.now in
    let scope = c.args.variables.now in
    let items = c.args.items.now in
    let others = take (length items - 1) (drop 1 items) in
    let p = err_from_is_err_and c.from_residual.result c.from_residual.ensures.1 in
    rw (p.1, p.2) (leads_stop c.args.needs d as_it_is (step (tester d (parts_of d (expressions_of others)))) (λ k. tested_term d scope k (parts_of d es)) (λ m. qualified m scope (parts_of m (expressions_of items)) (parts_of m es)) (λ m h. headed_by m scope h (parts_of m es)) c.in_err-ctor.field-0.0
    (ap (λ xs. qualified d scope (parts_of d (expressions_of xs)) (parts_of d es)) (rest-item items c.word-item.result c.in-len1-up.len_at_least c.word-item.is)
    ∙ qualified-tester d scope (part_of d (expression_of c.word-item.result)) (parts_of d (expressions_of others)) (parts_of d es) (sym (c.if-is_word.ensures.word d)))
    (c.in_err-ctor.ensures.value c.args.needs))
