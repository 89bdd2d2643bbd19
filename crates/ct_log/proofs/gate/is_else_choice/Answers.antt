use Rattle.std.proofs.Common.{◌≡◌, false, not, nat_eq}
use Rattle.ct_sorts.specs.Declarations.{bool_sort}
use Rattle.ct_log.proofs.GateLemmas.{Ite-condition, Ite-branches, is_bool}
use Rattle.ct_log.proofs.gate.is_else_choice.Goals as goal

pub lit-condition-requires : goal.lit-condition-requires
lit-condition-requires c = record { boolean = Ite-condition c.args.table.now c.args.t.0 c.in-Ite.c c.in-Ite.field-1 c.in-Ite.b c.requires.sorted (rw c.in-Ite.is at c.core.ensures.value) }

pub lit-requires : goal.lit-requires
lit-requires c =
    let told : not (nat_eq c.sort.result.0 0) ≡ false = cc in
    let bool : c.sort.result ≡ bool_sort = is_bool c.sort.result told in
    record {
      boolean = (Ite-branches c.args.table.now c.args.t c.in-Ite.c c.in-Ite.field-1 c.in-Ite.b bool_sort c.requires.sorted (rw c.in-Ite.is at c.core.ensures.value) (rw bool at c.sort.ensures.value)).1;
    }
