use Rattle.std.proofs.Common.{length, take}
use Rattle.ct_sorts.specs.Block.{block_ctors}
use Rattle.ct_sorts.specs.Room.{IsLeft, decl_fields}
use Rattle.ct_sorts.proofs.limits.room_after.Given as goal

abbrev pub invariant-loop-decl : goal.invariant-loop-decl
invariant-loop-decl l = IsLeft l.fn.room l.left l.decl-index (length (block_ctors (take l.decl-index l.block))) (length (decl_fields (block_ctors (take l.decl-index l.block))))
