use Rattle.std.proofs.Common.{◌≡◌, ◌++◌, take}
use Rattle.ct_sorts.specs.Block.{block_spellings}
use Rattle.ct_sorts.proofs.block.push_spellings.Given as goal

abbrev pub invariant-loop-decl : goal.invariant-loop-decl
invariant-loop-decl l = l.spellings ≡ l.fn.spellings ++ block_spellings (take l.decl-index l.block)
