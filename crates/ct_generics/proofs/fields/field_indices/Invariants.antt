use Rattle.std.proofs.Common.{take}
use Rattle.std.specs.List.{AllZip}
use Rattle.ct_generics.specs.Nodes.{Stay}
use Rattle.ct_generics.specs.Images.{IsImageAt, IsFieldImage}
use Rattle.ct_generics.proofs.ImageLemmas.{AddsOnly}
use Rattle.ct_generics.proofs.fields.field_indices.Given as goal

abbrev pub invariant-loop-field : goal.invariant-loop-field
invariant-loop-field l =
    record {
      stay : Stay l.fn.ids l.ids;
      fields : AllZip (IsImageAt l.images l.ids) l.indices.items (take l.field-index l.fields);
      only : AddsOnly l.fn.ids l.ids (IsFieldImage l.images (take l.field-index l.fields));
    }
