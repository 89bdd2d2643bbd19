use Rattle.std.proofs.Common.{take}
use Rattle.std.specs.List.{flat_map}
use Rattle.ct_generics.specs.Search.{IsMarking}
use Rattle.ct_generics.proofs.search.mark_ctors.Given as goal

abbrev pub invariant-loop-fields : goal.invariant-loop-fields
invariant-loop-fields l = IsMarking l.fn.marks.items l.fn.stack.items (flat_map (λ fields. fields) (take l.fields-index l.ctors)) l.marks.items l.stack.items
