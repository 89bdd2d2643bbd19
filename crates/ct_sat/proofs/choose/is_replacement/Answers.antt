use Rattle.ct_sat.proofs.UpLemmas.{opposites_apart}
use Rattle.ct_sat.proofs.choose.is_replacement.Goals as goal

pub returns-in-True : goal.returns-in-True
returns-in-True c = record { value = (c.if-is_one.ensures.value, λ f. opposites_apart c.args.trail.now.literals c.args.l c.value.ensures.whole.consistent c.in-True.ensures.value f) }

pub returns-in-Unset : goal.returns-in-Unset
returns-in-Unset c = record { value = (c.if-is_one.ensures.value, c.in-Unset.ensures.value.1) }
