use Rattle.std.proofs.Common.{◌≡◌, ℕ, ◌+◌, ◌≤◌, ◌++◌, List, [], ◌∷◌, length, map, take, drop, slice_get, Some, All}
use Rattle.ct_sorts.specs.Grown.{Begins}
use Rattle.ct_generics.specs.Denoted.{declared_of}
use Rattle.ct_sorts.specs.Determined.{AreMarked}
use Rattle.ct_sorts.proofs.block.push_determined.Given as goal

abbrev pub invariant-loop-h : goal.invariant-loop-h
invariant-loop-h l = Begins l.fn.determined l.determined × AreMarked (take l.h (declared_of l.generics).heads) l.determined
