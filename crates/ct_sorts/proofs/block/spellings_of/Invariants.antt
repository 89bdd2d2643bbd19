use Rattle.std.proofs.Common.{◌≡◌, ◌+◌, ◌++◌, List, map, take, drop, length}
use Rattle.ct_sorts.specs.Block.{spelling}
use Rattle.ct_sorts.proofs.block.spellings_of.Given as goal

abbrev pub invariant-loop-ctor : goal.invariant-loop-ctor
invariant-loop-ctor l = l.spellings.items ≡ map spelling (take l.ctor-index l.ctors)
