use Rattle.std.proofs.Common.{◌<◌, ◌∙◌, Some, length, ap, sym, arith}
use Rattle.std.proofs.lemmas.Option.{slice_get-get_or}
use Rattle.ct_equivalence.proofs.DigestLemmas.{AreExchanged-one, AreExchanged-past}
use Rattle.ct_equivalence.proofs.digests.exchange_one.Goals as goal

pub returns-then-at-len : goal.returns-then-at-len
returns-then-at-len c =
    let ds = c.args.digests.now.items in
    let at = c.args.place.term.0 in
    let within : at < length ds = omega (arith, c.if-at-len.true, c.len.ensures) in
    let d = c.index_mut.result.now in
    rw (c.share.ensures.value, c.share-then-at-len.ensures.value)
    (record { exchanged = AreExchanged-one ds c.args.place c.args.old c.args.new d within (slice_get-get_or ds at d within ∙ ap Some (sym c.index_mut.ensures.value)) })

pub returns-else-at-len : goal.returns-else-at-len
returns-else-at-len c = record { exchanged = AreExchanged-past c.args.digests.now.items c.args.place c.args.old c.args.new (λ below. omega (arith, below, c.if-at-len.false, c.len.ensures)) }
