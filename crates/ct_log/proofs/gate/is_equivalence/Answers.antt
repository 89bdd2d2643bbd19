use Rattle.ct_log.proofs.GateLemmas.{Iff-booleans}
use Rattle.ct_log.proofs.gate.is_equivalence.Goals as goal

pub lit-requires : goal.lit-requires
lit-requires c = record { boolean = (Iff-booleans c.args.table.now c.args.t.0 c.in-Iff.a c.in-Iff.b c.requires.sorted (rw c.in-Iff.is at c.core.ensures.value)).0 }

pub lit-requires-in-Iff : goal.lit-requires-in-Iff
lit-requires-in-Iff c = record { boolean = (Iff-booleans c.args.table.now c.args.t.0 c.in-Iff.a c.in-Iff.b c.requires.sorted (rw c.in-Iff.is at c.core.ensures.value)).1 }
