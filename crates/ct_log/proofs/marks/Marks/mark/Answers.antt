use Rattle.std.proofs.Common.{set, ap, arith, vec_capacity}
use Rattle.ct_log.specs.Marks.{Marking}
use Rattle.ct_log.proofs.MarkLemmas.{AreMarked-stamp, AreMarked-other}
use Rattle.ct_log.proofs.marks.Marks.mark.Goals as goal

pub returns-then-index-len-clause-marked : goal.returns-then-index-len-clause-marked
returns-then-index-len-clause-marked c =
    let m : Marking = record { stamps = c.self.inside.stamps.items; round = c.self.inside.round; others = c.self.inside.others.items; room = vec_capacity c.self.inside.others } in
    λ before marked.
    AreMarked-stamp m c.args.l (set m.stamps c.index_of-index.result m.round) before (ap (λ i. set m.stamps i m.round) c.index_of-index.ensures.value)
    (omega (arith, c.if-index-len.true, c.index_of-index.ensures.value, c.len.ensures, c.self.inside.stamps.ok.0))
    (rw (← c.self.view_is) at marked)

pub returns-clause-marked : goal.returns-clause-marked
returns-clause-marked c =
    let m : Marking = record { stamps = c.self.inside.stamps.items; round = c.self.inside.round; others = c.self.inside.others.items; room = vec_capacity c.self.inside.others } in
    λ before marked. AreMarked-other m c.args.l c.push_reserved.new.self.items before c.push_reserved.ensures.items (rw (← c.self.view_is) at marked)
