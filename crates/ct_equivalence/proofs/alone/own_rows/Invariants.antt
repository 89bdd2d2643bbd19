use Rattle.ct_equivalence.proofs.BeginningLemmas.{AreOwnRows}
use Rattle.ct_equivalence.proofs.alone.own_rows.Given as goal

abbrev pub invariant-loop-t : goal.invariant-loop-t
invariant-loop-t l = AreOwnRows l.t l.rows
