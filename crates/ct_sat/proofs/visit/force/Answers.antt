use Rattle.ct_sat.proofs.VisitLemmas.{forced-true, forced-unset, forced-false}
use Rattle.ct_sat.proofs.visit.force.Goals as goal

pub returns-in-True : goal.returns-in-True
returns-in-True c = record { forced = λ clauses k at forced. forced-true clauses c.args.trail.now c.args.l c.in-True.ensures.value }

pub returns-in-Unset : goal.returns-in-Unset
returns-in-Unset c = record { forced = λ clauses k at forced. rw c.imply.ensures.after (forced-unset clauses k c.args.trail.now c.args.l c.args.clause at forced c.in-Unset.ensures.value) }

pub returns-in-False : goal.returns-in-False
returns-in-False c = record { forced = λ clauses k at forced. forced-false clauses k c.args.trail.now c.args.l c.args.clause at forced c.in-False.ensures.value }
