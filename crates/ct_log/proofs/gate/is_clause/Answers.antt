use Rattle.ct_log.proofs.EqualLemmas.{Decides-lits}
use Rattle.ct_log.proofs.gate.is_clause.Goals as goal

pub returns : goal.returns
returns c = record { same = rw c.eq.ensures (Decides-lits c.args.clause.now c.args.other.now) }
