use Rattle.std.proofs.Common.{refl, arith}
use Rattle.std.proofs.lemmas.Option.{slice_get_read}
use Rattle.ct_card.proofs.CutLemmas.{kept_skip, kept_more}
use Rattle.ct_card.proofs.sizes.keep.Goals as goal

pub returns-then-n-len-clause-kept : goal.returns-then-n-len-clause-kept
returns-then-n-len-clause-kept c = λ count all whole is before.
    let order = c.args.order.now.items in
    let here = slice_get_read order _ c.args.i c.index-n.result.now refl c.requires.within c.index-n.ensures in
    kept_skip count all whole c.args.ranks.now.items order c.args.i c.args.kept c.index-n.result.now is here c.requires.few before
    (omega (arith, before.long, c.len.ensures, c.args.ranks.now.ok.0, c.if-n-len.true))

pub returns-clause-kept : goal.returns-clause-kept
returns-clause-kept c = λ count all whole is before.
    let order = c.args.order.now.items in
    let here = slice_get_read order _ c.args.i c.index-n.result.now refl c.requires.within c.index-n.ensures in
    kept_more count all whole c.args.ranks.now.items order c.args.i c.args.kept c.index-n.result.now is here c.requires.few before
    (omega (arith, before.long, c.len.ensures, c.args.ranks.now.ok.0, c.if-n-len.false))
