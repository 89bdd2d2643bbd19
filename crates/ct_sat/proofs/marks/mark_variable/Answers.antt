use Rattle.ct_sat.proofs.ClauseLemmas.{MarksClause-one}
use Rattle.ct_sat.proofs.marks.mark_variable.Goals as goal

pub returns-in-Some : goal.returns-in-Some
returns-in-Some c = record { marked = MarksClause-one c.args.trail.now.literals c.args.l c.in-Some.ensures.found.0 c.in-Some.position c.args.marks.now.items c.in-Some.ensures.whole.consistent c.in-Some.ensures.found.1 c.in-Some.ensures.found.2 c.requires.long }
