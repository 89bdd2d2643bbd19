use Rattle.std.proofs.lemmas.Option.{none-some}
use Rattle.ct_log.proofs.LookLemmas.{AreApart-told}
use Rattle.ct_log.proofs.closing.differ.Goals as goal

pub returns-in-None : goal.returns-in-None
returns-in-None c = record { differ = (λ e. cc, λ h. absurd (none-some h.0 ((c.in-None.ensures.built h.0).0 h.2))) }

pub returns-in-None-constructor : goal.returns-in-None-constructor
returns-in-None-constructor c = record { differ = (λ e. cc, λ h. absurd (none-some h.1 ((c.in-None-constructor.ensures.built h.1).0 h.3))) }

pub returns-in-Some-constructor : goal.returns-in-Some-constructor
returns-in-Some-constructor c =
    let at_t = (c.constructor.ensures.built c.in-Some.c).1 c.in-Some.is in
    let at_u = (c.constructor-in-Some.ensures.built c.in-Some-constructor.d).1 c.in-Some-constructor.is in
    record { differ = AreApart-told c.args.table.now c.args.t c.args.u c.in-Some.c c.in-Some-constructor.d c.ne.result c.ne.ensures at_t at_u }
