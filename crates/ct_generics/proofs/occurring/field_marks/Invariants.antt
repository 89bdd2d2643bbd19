use Rattle.std.proofs.Common.{◌≡◌, length}
use Rattle.ct_generics.proofs.OccurrenceLemmas.{AreFieldMarks}
use Rattle.ct_generics.proofs.occurring.field_marks.Given as goal

abbrev pub invariant-loop-field : goal.invariant-loop-field
invariant-loop-field l = record { long : length l.marks.items ≡ length l.template; are : AreFieldMarks l.fields l.marks.items l.field-index }
