use Rattle.std.proofs.Common.{◌≡◌, take}
use Rattle.ct_generics.proofs.nodes.Expressions.copy.Given as goal

abbrev pub invariant-loop-n : goal.invariant-loop-n
invariant-loop-n l = l.copied ≡ take l.n l.self
