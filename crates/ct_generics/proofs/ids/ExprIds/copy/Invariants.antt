use Rattle.std.proofs.Common.{◌≡◌, take}
use Rattle.ct_generics.proofs.ids.ExprIds.copy.Given as goal

abbrev pub invariant-loop-i : goal.invariant-loop-i
invariant-loop-i l = l.copied ≡ take l.i l.self
