use Rattle.std.proofs.Common.{◌≡◌, ℕ, ◌+◌, ◌≤◌, ◌++◌, List, [], ◌∷◌, length, map, take, drop, slice_get, Some, All}
use Rattle.ct_sorts.specs.Grown.{Begins}
use Rattle.ct_sorts.specs.Block.{block_ctors}
use Rattle.ct_sorts.specs.Room.{decl_fields}
use Rattle.ct_sorts.proofs.PushLemmas.{block_entries}
use Rattle.ct_sorts.proofs.block.push_symbols.Given as goal

abbrev pub invariant-loop-decl : goal.invariant-loop-decl
invariant-loop-decl l = (l.head ≡ l.first_head + l.decl-index) × (l.next.ctor ≤ l.fn.first.ctor + length (block_ctors (take l.decl-index l.block))) × (l.next.sel ≤ l.fn.first.sel + length (decl_fields (block_ctors (take l.decl-index l.block)))) × Begins l.fn.symbols l.symbols × (l.symbols ++ block_entries (record { head = l.head; ctor = l.next.ctor; sel = l.next.sel }) (drop l.decl-index l.block) ≡ l.fn.symbols ++ block_entries (record { head = l.first_head; ctor = l.fn.first.ctor; sel = l.fn.first.sel }) l.block)
