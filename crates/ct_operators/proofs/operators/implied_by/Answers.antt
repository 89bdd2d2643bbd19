use Rattle.std.proofs.Common.{◌-◌, List, length, take, subst}
use Rattle.std.proofs.lemmas.Result.{err_from_is_err_and}
use Rattle.ct_terms.specs.declared.ids.TermId.{TermId}
use Rattle.ct_operators.proofs.EffectLemmas.{effect_then}
use Rattle.ct_operators.proofs.ImplyingLemmas.{last_step, Implying, implying_start, implying_within, implying_step}
use Rattle.ct_operators.proofs.operators.implied_by.Goals as goal

pub loop-rest-init : goal.loop-rest-init
loop-rest-init c = implying_start c.args.sig.now c.args.table.now c.args.others.now c.args.last c.requires.kept c.requires.below c.requires.boolean

pub returns-in_err-term-clause-effect : goal.returns-in_err-term-clause-effect
returns-in_err-term-clause-effect c = λ allowed within.
    let d = c.args.sig.now in
    let old = c.args.table.now in
    let loop = c.loop-rest in
    let split = subst (λ (xs : List TermId). Implying d old loop.table c.args.others.now c.args.last loop.term xs) (last_step loop.rest.now _ c.in-len1-up.len_at_least) loop.invariant in
    let p = err_from_is_err_and c.from_residual.result c.from_residual.ensures.1 in
    rw (p.1, p.2)
    (effect_then d allowed old loop.table c.implied.new.table _ _ (loop.invariant.effect allowed within)
    (c.in_err-term.ensures.effect allowed (implying_within d old loop.table c.args.others.now c.args.last loop.term (take (length loop.rest.now - 1) loop.rest.now) _ split allowed within)))

pub loop-rest-preserved : goal.loop-rest-preserved
loop-rest-preserved c =
    let d = c.args.sig.now in
    let old = c.args.table.now in
    let loop = c.loop-rest in
    let split = subst (λ (xs : List TermId). Implying d old loop.table c.args.others.now c.args.last loop.term xs) (last_step loop.rest.now _ c.in-len1-up.len_at_least) loop.invariant in
    implying_step d old loop.table c.args.others.now c.args.last loop.term (take (length loop.rest.now - 1) loop.rest.now) _ split c.implied.new.table c.in_ok-term.term _ c.in_ok-term.ensures.core c.in_ok-term.ensures.effect
