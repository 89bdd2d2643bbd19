use Rattle.std.proofs.Common.{rules, arith}
use Rattle.std.specs.Prelude.{◌≢◌, slice_get, Some}
use Rattle.ct_arguments.proofs.NumberLemmas.{numbered, unnumbered}
use Rattle.ct_arguments.proofs.number.block_count.Goals as goal

pub returns-in-Ok : goal.returns-in-Ok
returns-in-Ok c =
    let none : slice_get c.args.text.now 0 ≢ Some 43 = search rules in
    record { count = numbered 2000 c.args.text.now c.in-Ok.count c.parse.result c.parse.ensures.value.0 c.in-Ok.is none (search rules) (search rules) }

pub returns-in_default-3 : goal.returns-in_default-3
returns-in_default-3 c =
    let none : slice_get c.args.text.now 0 ≢ Some 43 = search rules in
    record { count = unnumbered 2000 c.args.text.now c.in_default.field-0 c.parse.result c.parse.ensures.value.0 c.in_default.is none (omega arith) }
