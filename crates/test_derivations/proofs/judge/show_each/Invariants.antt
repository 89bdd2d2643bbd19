use Rattle.std.proofs.Common.{◌≡◌}
use Rattle.test_derivations.proofs.judge.show_each.Given as goal

abbrev pub invariant-loop-index : goal.invariant-loop-index
invariant-loop-index l = l.room ≡ l.initial.room
