use Rattle.std.proofs.Common.{get_or, take}
use Rattle.std.proofs.lemmas.List.{take_more}
use Rattle.ct_lemmas.proofs.Pairs.{AllZip-push}
use Rattle.ct_generics.specs.declared.nodes.ExprId.{ExprId}
use Rattle.ct_generics.specs.Images.{IsImage}
use Rattle.ct_generics.proofs.rows.images_of_fields.Goals as goal

pub loop-field-preserved : goal.loop-field-preserved
loop-field-preserved c =
    let i = c.loop-field.field-index in
    let fields = c.args.fields.now in
    let none : ExprId = record { 0 = 0 } in
    rw (c.in_ok-push.ensures.items, take_more fields i none c.loop-field-test.true) (AllZip-push (IsImage c.args.images.now) c.loop-field.row.items (take i fields) c.image_at-image.result (get_or fields i none) c.loop-field.invariant c.image_at-image.ensures.value)
