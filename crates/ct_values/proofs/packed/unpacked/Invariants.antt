use Rattle.std.proofs.Common.{◌≡◌, take}
use Rattle.ct_values.proofs.packed.unpacked.Given as goal

abbrev pub invariant-loop-n : goal.invariant-loop-n
invariant-loop-n l = l.nodes.items ≡ take l.n l.g
