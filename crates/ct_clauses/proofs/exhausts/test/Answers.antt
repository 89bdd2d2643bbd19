use Rattle.ct_clauses.proofs.GateLemmas.{Test-stripped}
use Rattle.ct_clauses.proofs.exhausts.test.Goals as goal

pub unreachable-requires : goal.unreachable-requires
unreachable-requires c = c.in-None.ensures.absent c.requires.tested.0 c.requires.tested.1

pub returns-clause-stripped : goal.returns-clause-stripped
returns-clause-stripped c = Test-stripped c.args.table.now c.in-Some.term c.args.t c.args.c (c.args.sig.now, c.requires.sorted) c.in-Some.ensures.found
