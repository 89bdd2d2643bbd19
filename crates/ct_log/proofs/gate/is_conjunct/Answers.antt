use Rattle.ct_log.proofs.GateLemmas.{And-booleans}
use Rattle.ct_log.proofs.gate.is_conjunct.Goals as goal

pub has_argument-requires : goal.has_argument-requires
has_argument-requires c = record {
  booleans = rw c.as_slice.ensures.value (And-booleans c.args.table.now c.args.t.0 c.in-And.args c.requires.sorted (rw c.in-And.is at c.core.ensures.value));
}
