use Rattle.ct_clauses.proofs.GateLemmas.{Eq-stripped}
use Rattle.ct_clauses.proofs.shapes.equation.Goals as goal

pub unreachable-requires : goal.unreachable-requires
unreachable-requires c = c.in-None.ensures.absent c.requires.present.0 c.requires.present.1

pub returns-clause-stripped : goal.returns-clause-stripped
returns-clause-stripped c = Eq-stripped c.args.table.now c.in-Some.e c.args.left c.args.right c.requires.sorted c.in-Some.ensures.found
