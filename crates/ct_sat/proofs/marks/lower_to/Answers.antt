use Rattle.std.proofs.Common.{arith}
use Rattle.ct_sat.proofs.ClauseLemmas.{Lowers-one}
use Rattle.ct_sat.proofs.marks.lower_to.Goals as goal

pub returns-then-position-start : goal.returns-then-position-start
returns-then-position-start c = record { lowers = Lowers-one c.args.trail.now.literals c.args.l c.in-Some.ensures.found.0 c.in-Some.position c.args.start c.args.index c.args.index c.in-Some.ensures.whole.consistent c.in-Some.ensures.found.1 c.in-Some.ensures.found.2 (omega arith) (λ h. h) (λ from. absurd (omega arith)) }

pub returns-then-position-index : goal.returns-then-position-index
returns-then-position-index c = record { lowers = Lowers-one c.args.trail.now.literals c.args.l c.in-Some.ensures.found.0 c.in-Some.position c.args.start c.args.index c.in-Some.position c.in-Some.ensures.whole.consistent c.in-Some.ensures.found.1 c.in-Some.ensures.found.2 (omega arith) (λ h. omega arith) (λ from. omega arith) }

pub returns-else-position-index : goal.returns-else-position-index
returns-else-position-index c = record { lowers = Lowers-one c.args.trail.now.literals c.args.l c.in-Some.ensures.found.0 c.in-Some.position c.args.start c.args.index c.args.index c.in-Some.ensures.whole.consistent c.in-Some.ensures.found.1 c.in-Some.ensures.found.2 (omega arith) (λ h. h) (λ from. omega arith) }
