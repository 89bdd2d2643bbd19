use Rattle.std.proofs.Common.{◌≡◌, ◌+◌, length, take}
use Rattle.ct_sorts.specs.Room.{decl_fields}
use Rattle.ct_sorts.proofs.limits.room_after_fields.Given as goal

abbrev pub invariant-loop-ctor : goal.invariant-loop-ctor
invariant-loop-ctor l = length (decl_fields (take l.ctor-index l.ctors)) + l.left ≡ l.fn.room
