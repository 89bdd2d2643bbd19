use Rattle.std.proofs.Common.{◌-◌, length, take, drop, List, subst, sym, arith}
use Rattle.std.proofs.lemmas.Result.{err_from_is_err_and}
use Rattle.ct_lemmas.proofs.Prefixes.{nothing_left, rest-step}
use Rattle.ct_terms.specs.declared.ids.TermId.{TermId}
use Rattle.ct_operators.proofs.EffectLemmas.{effect_then, effect_because}
use Rattle.ct_operators.proofs.ChainLemmas.{Comparing, comparing_start, comparing_pair, comparing_within, comparing_step, comparing_end, comparing_order}
use Rattle.ct_operators.proofs.chains.compared.Goals as goal

pub loop-rest-init : goal.loop-rest-init
loop-rest-init c =
    let d = c.args.sig.now in
    let side = c.requires.pairs.0 in
    (side, subst (λ (args : List TermId). Comparing d c.args.different c.args.table.now c.args.table.now side c.args.pairs.now args c.args.pairs.now) (sym c.new-args.ensures.empty) (comparing_start d c.args.different c.args.table.now side c.args.pairs.now c.requires.kept c.requires.pairs.1))

pub compare-requires-clause-kept : goal.compare-requires-clause-kept
compare-requires-clause-kept c = c.loop-rest.invariant.1.kept

pub compare-requires-clause-pair : goal.compare-requires-clause-pair
compare-requires-clause-pair c =
    let d = c.args.sig.now in
    let loop = c.loop-rest in
    let split = subst (λ (xs : List (TermId × TermId)). Comparing d c.args.different c.args.table.now loop.table loop.invariant.0 c.args.pairs.now loop.args xs) (rest-step loop.rest.now _ c.in-len1-up.len_at_least) loop.invariant.1 in
    comparing_pair d c.args.different c.args.table.now loop.table loop.invariant.0 c.args.pairs.now loop.args _ _ split

pub returns-in_err-term-clause-effect : goal.returns-in_err-term-clause-effect
returns-in_err-term-clause-effect c = λ allowed within.
    let d = c.args.sig.now in
    let loop = c.loop-rest in
    let split = subst (λ (xs : List (TermId × TermId)). Comparing d c.args.different c.args.table.now loop.table loop.invariant.0 c.args.pairs.now loop.args xs) (rest-step loop.rest.now _ c.in-len1-up.len_at_least) loop.invariant.1 in
    let p = err_from_is_err_and c.from_residual.result c.from_residual.ensures.1 in
    rw (p.1, p.2) (effect_because d allowed c.args.table.now c.compare.new.table _ _ (λ e. cc) (effect_then d allowed c.args.table.now loop.table c.compare.new.table _ _ (loop.invariant.1.effect allowed within) (c.in_err-term.ensures.effect allowed (comparing_within d c.args.different c.args.table.now loop.table loop.invariant.0 c.args.pairs.now loop.args _ _ split allowed within))))

pub returns-in_err-push-clause-effect : goal.returns-in_err-push-clause-effect
returns-in_err-push-clause-effect c = λ allowed within.
    let d = c.args.sig.now in
    let loop = c.loop-rest in
    let split = subst (λ (xs : List (TermId × TermId)). Comparing d c.args.different c.args.table.now loop.table loop.invariant.0 c.args.pairs.now loop.args xs) (rest-step loop.rest.now _ c.in-len1-up.len_at_least) loop.invariant.1 in
    let next = comparing_step d c.args.different c.args.table.now loop.table loop.invariant.0 c.args.pairs.now loop.args _ _ split c.compare.new.table c.in_ok-term.term _ c.in_ok-term.ensures.core c.in_ok-term.ensures.effect in
    let p = err_from_is_err_and c.from_residual-in_err-push.result c.from_residual-in_err-push.ensures.1 in
    rw (p.1, p.2) (effect_because d allowed c.args.table.now c.compare.new.table _ _ (λ e. cc) (next.effect allowed within))

pub loop-rest-preserved : goal.loop-rest-preserved
loop-rest-preserved c =
    let d = c.args.sig.now in
    let loop = c.loop-rest in
    let split = subst (λ (xs : List (TermId × TermId)). Comparing d c.args.different c.args.table.now loop.table loop.invariant.0 c.args.pairs.now loop.args xs) (rest-step loop.rest.now _ c.in-len1-up.len_at_least) loop.invariant.1 in
    let next = comparing_step d c.args.different c.args.table.now loop.table loop.invariant.0 c.args.pairs.now loop.args _ _ split c.compare.new.table c.in_ok-term.term _ c.in_ok-term.ensures.core c.in_ok-term.ensures.effect in
    (loop.invariant.0, subst (λ (args : List TermId). Comparing d c.args.different c.args.table.now c.compare.new.table loop.invariant.0 c.args.pairs.now args (take (length loop.rest.now - 1) (drop 1 loop.rest.now))) (sym c.in_ok-push.ensures.ok) next)

pub returns-clause-core : goal.returns-clause-core
returns-clause-core c =
    let loop = c.loop-rest in
    let none = nothing_left loop.rest.now (omega (arith, c.in_default.len_below)) in
    comparing_end c.args.sig.now c.args.different c.args.table.now loop.table loop.invariant.0 c.args.pairs.now loop.args
    (subst (λ (xs : List (TermId × TermId)). Comparing c.args.sig.now c.args.different c.args.table.now loop.table loop.invariant.0 c.args.pairs.now loop.args xs) none loop.invariant.1)

pub returns-clause-effect : goal.returns-clause-effect
returns-clause-effect c = λ allowed within.
    effect_because c.args.sig.now allowed c.args.table.now c.loop-rest.table _ _ (λ e. cc) (c.loop-rest.invariant.1.effect allowed within)

pub returns-clause-order : goal.returns-clause-order
returns-clause-order c =
    let loop = c.loop-rest in
    let none = nothing_left loop.rest.now (omega (arith, c.in_default.len_below)) in
    comparing_order c.args.sig.now c.args.different c.args.table.now loop.table loop.invariant.0 c.args.pairs.now loop.args
    (subst (λ (xs : List (TermId × TermId)). Comparing c.args.sig.now c.args.different c.args.table.now loop.table loop.invariant.0 c.args.pairs.now loop.args xs) none loop.invariant.1)
