use Rattle.std.proofs.Common.{List, subst}
use Rattle.std.proofs.lemmas.Result.{err_from_is_err_and}
use Rattle.ct_lemmas.proofs.Prefixes.{rest-step}
use Rattle.ct_terms.specs.declared.ids.TermId.{TermId}
use Rattle.ct_operators.proofs.EffectLemmas.{effect_then}
use Rattle.ct_operators.proofs.OperatorLemmas.{Folding, folding_step, folding_within}
use Rattle.ct_operators.proofs.operators.exclusive_of.Goals as goal

pub returns-in_err-left-clause-effect : goal.returns-in_err-left-clause-effect
returns-in_err-left-clause-effect c = λ allowed within.
    let d = c.args.sig.now in
    let old = c.args.table.now in
    let loop = c.loop-rest in
    let split = subst (λ (xs : List TermId). Folding d old loop.table c.args.first c.args.others.now loop.left xs) (rest-step loop.rest.now _ c.in-len1-up.len_at_least) loop.invariant in
    let p = err_from_is_err_and c.from_residual.result c.from_residual.ensures.1 in
    rw (p.1, p.2)
    (effect_then d allowed old loop.table c.exclusive.new.table _ _ (loop.invariant.effect allowed within)
    (c.in_err-left.ensures.effect allowed (folding_within d old loop.table c.exclusive.new.table c.args.first c.args.others.now loop.left _ _ split allowed within)))

pub loop-rest-preserved : goal.loop-rest-preserved
loop-rest-preserved c =
    let d = c.args.sig.now in
    let old = c.args.table.now in
    let loop = c.loop-rest in
    let split = subst (λ (xs : List TermId). Folding d old loop.table c.args.first c.args.others.now loop.left xs) (rest-step loop.rest.now _ c.in-len1-up.len_at_least) loop.invariant in
    folding_step d old loop.table c.exclusive.new.table c.args.first c.args.others.now loop.left _ _ split c.in_ok-left.left _ c.in_ok-left.ensures.core c.in_ok-left.ensures.effect (λ e. cc)
