use Rattle.ct_log.proofs.GateLemmas.{Ite-condition}
use Rattle.ct_log.proofs.gate.is_then.Goals as goal

pub lit-requires : goal.lit-requires
lit-requires c = record { boolean = Ite-condition c.args.table.now c.args.t.0 c.in-Ite.c c.in-Ite.a c.in-Ite.field-2 c.requires.sorted (rw c.in-Ite.is at c.core.ensures.value) }
