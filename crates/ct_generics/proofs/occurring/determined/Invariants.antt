use Rattle.std.proofs.Common.{◌≡◌, ◌↔◌, take, Some, slice_get, IsTrue}
use Rattle.std.specs.List.{AllZip}
use Rattle.ct_generics.specs.Declarations.{Declared, Head}
use Rattle.ct_generics.specs.Occurrence.{OccurAll}
use Rattle.ct_generics.specs.Stored.{AreDeclared}
use Rattle.ct_generics.proofs.occurring.determined.Given as goal

abbrev pub invariant-loop-row : goal.invariant-loop-row
invariant-loop-row l = (d : Declared) (head : Head) → AreDeclared l.g d → slice_get d.heads l.fn.h.0 ≡ Some head → AllZip (λ mark row. IsTrue mark ↔ OccurAll head.params row) l.marks.items (take l.row-index head.ctors)
