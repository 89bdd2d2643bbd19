use Rattle.std.proofs.Common.{◌≡◌, take}
use Rattle.ct_sorts.proofs.numbered.Numbered.copy.Given as goal

abbrev pub invariant-loop-index : goal.invariant-loop-index
invariant-loop-index g l = l.copied ≡ take l.index l.self
