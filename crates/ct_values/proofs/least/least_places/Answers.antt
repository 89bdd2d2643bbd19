use Rattle.std.proofs.Common.{◌+◌, ◌-◌, ◌≡◌, subst, arith}
use Rattle.ct_values.specs.Least.{TellsLeast}
use Rattle.ct_values.proofs.LeastLemmas.{TellsLeast-none, TellsLeast-more}
use Rattle.ct_values.proofs.least.least_places.Goals as goal

pub places-init : goal.places-init
places-init c = (omega arith, TellsLeast-none c.args.numbers.now c.in_ok-table.table.items (λ i below. omega (arith, c.largest.ensures.above i below, c.in_ok-table.ensures.len, c.in_ok-table.table.ok.0)))

pub places-preserved : goal.places-preserved
places-preserved c =
    let numbers = c.args.numbers.now in
    let n = c.places.i - 1 in
    let before : c.places.i ≡ n + 1 = omega (arith, c.places-test.true) in
    let told = subst (λ i. TellsLeast numbers i c.places.table.items) before c.places.invariant.1 in
    (omega (arith, c.places.invariant.0), TellsLeast-more numbers c.places.table.items n c.requires.positive (omega (arith, c.places-test.true, c.places.invariant.0)) told)
