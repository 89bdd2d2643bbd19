use Rattle.std.proofs.Common.{take}
use Rattle.std.specs.List.{AllZip}
use Rattle.ct_generics.specs.Images.{IsImage}
use Rattle.ct_generics.proofs.rows.images_of_rows.Given as goal

abbrev pub invariant-loop-fields : goal.invariant-loop-fields
invariant-loop-fields l = AllZip (AllZip (IsImage l.images)) l.all.items (take l.fields-index l.rows)
