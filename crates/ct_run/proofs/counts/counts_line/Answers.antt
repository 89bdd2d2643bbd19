use Rattle.std.proofs.Common.{rules}
use Rattle.ct_run.proofs.counts.counts_line.Goals as goal

pub returns : goal.returns
returns c = rw (← c.count_sat-sat.ensures.count, ← c.count_unsat-unsat.ensures.count, ← c.count_unknown-unknown.ensures.count) (search rules)
