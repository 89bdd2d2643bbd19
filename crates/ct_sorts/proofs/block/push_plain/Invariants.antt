use Rattle.std.proofs.Common.{◌≡◌, ℕ, ◌+◌, ◌≤◌, ◌++◌, List, [], ◌∷◌, length, map, take, drop, slice_get, Some, All}
use Rattle.ct_sorts.specs.Grown.{Begins}
use Rattle.ct_sorts.specs.Room.{decl_fields}
use Rattle.ct_sorts.proofs.PushLemmas.{plain_ctors}
use Rattle.ct_sorts.proofs.block.push_plain.Given as goal

abbrev pub invariant-loop-ctor : goal.invariant-loop-ctor
invariant-loop-ctor l = (l.next.ctor ≡ l.fn.first.ctor + l.ctor-index) × (l.next.sel ≡ l.fn.first.sel + length (decl_fields (take l.ctor-index l.ctors))) × Begins l.fn.symbols l.symbols × (l.symbols ++ plain_ctors (l.next.ctor, l.next.sel) (drop l.ctor-index l.ctors) ≡ l.fn.symbols ++ plain_ctors (l.fn.first.ctor, l.fn.first.sel) l.ctors)
