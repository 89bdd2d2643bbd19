use Rattle.std.proofs.Common.{◌≡◌, replicate, None}
use Rattle.ct_instances.proofs.matching.no_sorts.Given as goal

abbrev pub invariant-loop : goal.invariant-loop
invariant-loop l = l.sorts.items ≡ replicate l.counter None
