use Rattle.ct_log.proofs.GateLemmas.{Or-booleans}
use Rattle.ct_log.proofs.gate.is_disjunct.Goals as goal

pub has_argument-requires : goal.has_argument-requires
has_argument-requires c = record {
  booleans = rw c.as_slice.ensures.value (Or-booleans c.args.table.now c.args.t.0 c.in-Or.args c.requires.sorted (rw c.in-Or.is at c.core.ensures.value));
}
