use Rattle.ct_sat.proofs.UpLemmas.{opposites_apart}
use Rattle.ct_sat.proofs.AttachLemmas.{not_false-from}
use Rattle.ct_sat.proofs.attach.not_false.Goals as goal

pub returns-in-False : goal.returns-in-False
returns-in-False c = record { found = not_false-from c.args.trail.now.literals c.args.clause.now c.args.l c.replacement.result c.in-False.ensures.value c.replacement.ensures.found }

pub returns-in-True : goal.returns-in-True
returns-in-True c = record { found = (c.requires.listed, λ f. opposites_apart c.args.trail.now.literals c.args.l c.value.ensures.whole.consistent c.in-True.ensures.value f) }

pub returns-in-Unset : goal.returns-in-Unset
returns-in-Unset c = record { found = (c.requires.listed, c.in-Unset.ensures.value.1) }
