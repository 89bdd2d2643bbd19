use Rattle.std.proofs.Common.{◌≡◌, take}
use Rattle.ct_generics.proofs.copying.copy_heads.Given as goal

abbrev pub invariant-loop-head : goal.invariant-loop-head
invariant-loop-head l = l.copied.items ≡ take l.head-index l.heads
