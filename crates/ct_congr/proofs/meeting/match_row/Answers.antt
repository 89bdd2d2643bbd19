use Rattle.std.proofs.Common.{refl}
use Rattle.ct_lemmas.proofs.Lists.{slice_get-there}
use Rattle.ct_congr.proofs.MetLemmas.{IsCongruence-alike}
use Rattle.ct_congr.proofs.meeting.match_row.Goals as goal

pub returns-clause-waits : goal.returns-clause-waits
returns-clause-waits c = λ d.
    let terms = c.args.table.now in
    let t = slice_get-there terms c.args.t.0 c.requires.inside in
    let u = slice_get-there terms c.args.u.0 c.requires.other in
    let alike = (c.if-not-are_alike.ensures.value t.0.0 u.0.0 (t.0.1, t.1) (u.0.1, u.1)).0 refl in
    c.in_ok-let_wait.ensures.waits d terms (refl, refl, IsCongruence-alike terms c.args.reps.now c.args.t c.args.u t.0.0 u.0.0 (t.0.1, t.1) (u.0.1, u.1) alike) tt

pub returns-clause-tried : goal.returns-clause-tried
returns-clause-tried c = λ core other p q. ((c.if-not-are_alike.ensures.value core other p q).0 refl, c.in_ok-let_wait.ensures.joined)
