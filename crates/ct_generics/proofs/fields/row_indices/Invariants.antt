use Rattle.std.proofs.Common.{take}
use Rattle.std.specs.List.{AllZip}
use Rattle.ct_generics.specs.Nodes.{Stay}
use Rattle.ct_generics.specs.Images.{IsImageAt, IsRowImage}
use Rattle.ct_generics.proofs.ImageLemmas.{AddsOnly}
use Rattle.ct_generics.proofs.fields.row_indices.Given as goal

abbrev pub invariant-loop-fields : goal.invariant-loop-fields
invariant-loop-fields l =
    record {
      stay : Stay l.fn.ids l.ids;
      rows : AllZip (AllZip (IsImageAt l.images l.ids)) l.all.items (take l.fields-index l.rows);
      only : AddsOnly l.fn.ids l.ids (IsRowImage l.images (take l.fields-index l.rows));
    }
