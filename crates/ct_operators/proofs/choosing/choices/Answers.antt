use Rattle.std.proofs.Common.{◌-◌, List, length, take, subst}
use Rattle.std.proofs.lemmas.Result.{err_from_is_err_and}
use Rattle.ct_operators.specs.declared.choosing.Guarded.{Guarded}
use Rattle.ct_operators.proofs.EffectLemmas.{effect_then}
use Rattle.ct_operators.proofs.ImplyingLemmas.{last_step}
use Rattle.ct_operators.proofs.ChosenLemmas.{Choosing, choosing_start, choosing_below, choosing_sorted, choosing_inside, choosing_step}
use Rattle.ct_operators.proofs.choosing.choices.Goals as goal

pub loop-rest-init : goal.loop-rest-init
loop-rest-init c = choosing_start c.args.sig.now c.args.table.now c.args.guarded.now c.args.last c.requires.kept c.requires.below c.requires.inside c.requires.sorted

pub make-requires-clause-kept : goal.make-requires-clause-kept
make-requires-clause-kept c = c.loop-rest.invariant.kept

pub make-requires-clause-below : goal.make-requires-clause-below
make-requires-clause-below c =
    let loop = c.loop-rest in
    let split = subst (λ (xs : List Guarded). Choosing c.args.sig.now c.args.table.now loop.table c.args.guarded.now c.args.last loop.term xs) (last_step loop.rest.now _ c.in-len1-up.len_at_least) loop.invariant in
    choosing_below c.args.sig.now c.args.table.now loop.table c.args.guarded.now c.args.last loop.term (take (length loop.rest.now - 1) loop.rest.now) _ split

pub make-requires-clause-sorted : goal.make-requires-clause-sorted
make-requires-clause-sorted c =
    let loop = c.loop-rest in
    let split = subst (λ (xs : List Guarded). Choosing c.args.sig.now c.args.table.now loop.table c.args.guarded.now c.args.last loop.term xs) (last_step loop.rest.now _ c.in-len1-up.len_at_least) loop.invariant in
    choosing_sorted c.args.sig.now c.args.table.now loop.table c.args.guarded.now c.args.last loop.term (take (length loop.rest.now - 1) loop.rest.now) _ split

pub returns-in_err-term-clause-effect : goal.returns-in_err-term-clause-effect
returns-in_err-term-clause-effect c = λ allowed within.
    let d = c.args.sig.now in
    let old = c.args.table.now in
    let loop = c.loop-rest in
    let split = subst (λ (xs : List Guarded). Choosing d old loop.table c.args.guarded.now c.args.last loop.term xs) (last_step loop.rest.now _ c.in-len1-up.len_at_least) loop.invariant in
    let p = err_from_is_err_and c.from_residual.result c.from_residual.ensures.1 in
    rw (p.1, p.2)
    (effect_then d allowed old loop.table c.make.new.table _ _ (loop.invariant.effect allowed within)
    (c.in_err-term.ensures.effect allowed (choosing_inside d old loop.table c.args.guarded.now c.args.last loop.term (take (length loop.rest.now - 1) loop.rest.now) _ split allowed within)))

pub loop-rest-preserved : goal.loop-rest-preserved
loop-rest-preserved c =
    let d = c.args.sig.now in
    let old = c.args.table.now in
    let loop = c.loop-rest in
    let split = subst (λ (xs : List Guarded). Choosing d old loop.table c.args.guarded.now c.args.last loop.term xs) (last_step loop.rest.now _ c.in-len1-up.len_at_least) loop.invariant in
    choosing_step d old loop.table c.args.guarded.now c.args.last loop.term (take (length loop.rest.now - 1) loop.rest.now) _ split c.make.new.table c.in_ok-term.term _ c.in_ok-term.ensures.core c.in_ok-term.ensures.effect
