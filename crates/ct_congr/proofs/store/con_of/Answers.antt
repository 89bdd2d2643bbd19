use Rattle.ct_congr.proofs.store.con_of.Goals as goal

pub returns : goal.returns
returns c = record { stored = (c.rep.result, c.rep.ensures.value, c.rep.ensures.own, c.con_of.ensures.value c.rep.result c.rep.ensures.value) }
