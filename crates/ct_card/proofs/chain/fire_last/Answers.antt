use Rattle.std.proofs.Common.{refl}
use Rattle.std.proofs.lemmas.Option.{slice_get_read}
use Rattle.ct_card.proofs.chain.fire_last.Goals as goal

pub returns-clause-under_way : goal.returns-clause-under_way
returns-clause-under_way c = λ old start.
    c.in_ok-fire.ensures.under_way old c.args.rules.now c.args.k (slice_get_read c.args.rules.now _ c.args.k c.index-rules-k.result refl c.if-k-rules.false c.index-rules-k.is) start
