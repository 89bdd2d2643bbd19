use Rattle.std.proofs.Common.{take}
use Rattle.ct_generics.specs.Search.{IsMarking}
use Rattle.ct_generics.proofs.search.mark_fields.Given as goal

abbrev pub invariant-loop-field : goal.invariant-loop-field
invariant-loop-field l = IsMarking l.fn.marks.items l.fn.stack.items (take l.field-index l.fields) l.marks.items l.stack.items
