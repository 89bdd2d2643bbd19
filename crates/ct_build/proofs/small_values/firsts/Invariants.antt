use Rattle.std.proofs.Common.{◌≡◌, length}
use Rattle.ct_build.proofs.small_values.firsts.Given as goal

abbrev pub invariant-loop-i : goal.invariant-loop-i
invariant-loop-i l = length l.list.items ≡ l.i
