use Rattle.std.proofs.Common.{◌≡◌, replicate}
use Rattle.ct_check.proofs.callees.repeated.Given as goal

abbrev pub invariant-loop : goal.invariant-loop
invariant-loop l = l.sorts.items ≡ replicate l.counter l.sort
