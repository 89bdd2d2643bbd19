use Rattle.std.proofs.Common.{◌≡◌, ◌+◌, ◌++◌, List, map, take, drop, length}
use Rattle.ct_sorts.proofs.tables.copy_determined.Given as goal

abbrev pub invariant-loop-ctors : goal.invariant-loop-ctors
invariant-loop-ctors l = l.copied.items ≡ take l.ctors-index l.marks
