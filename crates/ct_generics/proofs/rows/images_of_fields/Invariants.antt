use Rattle.std.proofs.Common.{take}
use Rattle.std.specs.List.{AllZip}
use Rattle.ct_generics.specs.Images.{IsImage}
use Rattle.ct_generics.proofs.rows.images_of_fields.Given as goal

abbrev pub invariant-loop-field : goal.invariant-loop-field
invariant-loop-field l = AllZip (IsImage l.images) l.row.items (take l.field-index l.fields)
