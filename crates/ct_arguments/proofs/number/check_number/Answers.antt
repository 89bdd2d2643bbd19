use Rattle.std.proofs.Common.{rules, arith}
use Rattle.std.specs.Prelude.{◌≢◌, slice_get, Some}
use Rattle.ct_arguments.proofs.NumberLemmas.{bounded, numbered, unnumbered}
use Rattle.ct_arguments.proofs.number.check_number.Goals as goal

pub returns-in-Ok : goal.returns-in-Ok
returns-in-Ok c =
    let none : slice_get c.args.text.now 0 ≢ Some 43 = search rules in
    let most = bounded c.args.text.now c.in-Ok.number c.parse.result c.parse.ensures.value.0 c.in-Ok.is none in
    record { number = numbered 18446744073709551615 c.args.text.now c.in-Ok.number c.parse.result c.parse.ensures.value.0 c.in-Ok.is none (search rules) most }

pub returns-in_default-2 : goal.returns-in_default-2
returns-in_default-2 c =
    let none : slice_get c.args.text.now 0 ≢ Some 43 = search rules in
    record { number = unnumbered 18446744073709551615 c.args.text.now c.in_default.field-0 c.parse.result c.parse.ensures.value.0 c.in_default.is none (omega arith) }
