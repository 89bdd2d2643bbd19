use Rattle.std.proofs.Common.{◌≡◌, ℕ, ◌+◌, ◌≤◌, ◌++◌, List, [], ◌∷◌, length, map, take, drop, slice_get, Some, All}
use Rattle.ct_sorts.specs.Grown.{Begins}
use Rattle.ct_sorts.proofs.PushLemmas.{generic_ctors}
use Rattle.ct_sorts.proofs.block.push_generic.Given as goal

abbrev pub invariant-loop-ctor : goal.invariant-loop-ctor
invariant-loop-ctor l = (l.index ≡ l.ctor-index) × Begins l.fn.symbols l.symbols × (l.symbols ++ generic_ctors l.g l.index (drop l.ctor-index l.ctors) ≡ l.fn.symbols ++ generic_ctors l.g 0 l.ctors)
