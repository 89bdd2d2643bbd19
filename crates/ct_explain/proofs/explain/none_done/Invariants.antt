use Rattle.std.proofs.Common.{◌≡◌, None, replicate}
use Rattle.ct_explain.proofs.explain.none_done.Given as goal

abbrev pub invariant-loop : goal.invariant-loop
invariant-loop l = l.done.items ≡ replicate l.counter None
