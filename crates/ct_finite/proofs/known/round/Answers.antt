use Rattle.std.proofs.Common.{arith}
use Rattle.std.proofs.lemmas.Bool.{OnFalse_at}
use Rattle.ct_finite.proofs.RoundLemmas.{on_false, round_step, all_done}
use Rattle.ct_finite.proofs.known.round.Goals as goal

pub loop-s-preserved : goal.loop-s-preserved
loop-s-preserved c =
    let e = c.learn-now.ensures in
    rw c.either-more.ensures.value (round_step c.args.sig.now c.args.counts.now.items c.loop-s.counts.items c.learn-now.new.counts.items c.loop-s.s c.loop-s.more c.learn-now.result c.loop-s.invariant
    e.under_way
    e.fewer
    (λ no. OnFalse_at no e.same)
    (λ no. OnFalse_at no e.ready))

pub returns-clause-complete : goal.returns-clause-complete
returns-clause-complete c =
    on_false c.loop-s.more (λ no.
    all_done c.args.sig.now c.loop-s.counts.items (λ s within. c.loop-s.invariant.done no s (omega (arith, within, c.loop-s-test.false, c.sorts-s-end.ensures.count))))
