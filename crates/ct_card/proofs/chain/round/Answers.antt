use Rattle.std.proofs.Common.{refl, arith}
use Rattle.std.proofs.lemmas.Option.{slice_get_within, slice_get_read}
use Rattle.std.proofs.lemmas.Bool.{OnFalse_at}
use Rattle.ct_card.proofs.RankLemmas.{on_false, round_step}
use Rattle.ct_card.proofs.chain.round.Goals as goal

pub fire-requires : goal.fire-requires
fire-requires c =
    let at = slice_get_read c.args.rules.now _ c.loop-rule.rule-index c.rule-item.result refl c.loop-rule-test.true c.rule-item.is in
    record { head = omega (arith, c.requires.heads c.loop-rule.rule-index c.rule-item.result at, c.loop-rule.invariant.long) }

pub loop-rule-preserved : goal.loop-rule-preserved
loop-rule-preserved c =
    let at = slice_get_read c.args.rules.now _ c.loop-rule.rule-index c.rule-item.result refl c.loop-rule-test.true c.rule-item.is in
    let f = c.in_ok-now.ensures in
    rw c.either-fired.ensures.value (round_step c.args.rules.now c.args.ranks.now.items c.args.order.now.items c.loop-rule.ranks.items c.loop-rule.order.items c.fire.new.ranks.items c.fire.new.order.items c.loop-rule.rule-index c.loop-rule.fired c.in_ok-now.now c.rule-item.result at c.loop-rule.invariant
    f.long
    (λ old start. f.under_way old c.args.rules.now c.loop-rule.rule-index at (c.loop-rule.invariant.under_way old start))
    f.fewer
    (λ e. (OnFalse_at e f.same).0)
    (λ e. OnFalse_at e f.stable))

pub returns-clause-stable : goal.returns-clause-stable
returns-clause-stable c = on_false c.loop-rule.fired (λ e k rule stated ready.
    c.loop-rule.invariant.stable e k rule (omega (arith, slice_get_within c.args.rules.now k rule stated)) stated ready)
