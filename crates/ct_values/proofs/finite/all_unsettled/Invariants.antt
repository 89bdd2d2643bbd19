use Rattle.std.proofs.Common.{◌≡◌, replicate}
use Rattle.ct_values.proofs.finite.all_unsettled.Given as goal

abbrev pub invariant-loop : goal.invariant-loop
invariant-loop l = l.classes.items ≡ replicate l.counter 0
