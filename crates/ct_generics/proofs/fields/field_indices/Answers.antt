use Rattle.std.proofs.Common.{get_or, take}
use Rattle.std.proofs.lemmas.List.{take_more}
use Rattle.ct_generics.specs.declared.nodes.ExprId.{ExprId}
use Rattle.ct_generics.proofs.NodeLemmas.{Stay-trans}
use Rattle.ct_generics.proofs.ImageLemmas.{fields-push, only-field}
use Rattle.ct_generics.proofs.fields.field_indices.Goals as goal

pub loop-field-preserved : goal.loop-field-preserved
loop-field-preserved c =
    let i = c.loop-field.field-index in
    let fields = c.args.fields.now in
    let images = c.args.images.now in
    let begin = c.args.ids.now in
    let old = c.loop-field.ids in
    let new = c.insert.new.self in
    let none : ExprId = record { 0 = 0 } in
    let field = get_or fields i none in
    let image = c.image_at-image.result in
    record {
      stay = Stay-trans begin old new c.loop-field.invariant.stay c.insert.ensures.stay;
      fields = rw (c.in_ok-push.ensures.items, take_more fields i none c.loop-field-test.true) (fields-push images old new c.loop-field.indices.items (take i fields) c.in_ok-index.index field image c.insert.ensures.stay c.loop-field.invariant.fields c.image_at-image.ensures.value c.in_ok-index.ensures.at);
      only = rw (take_more fields i none c.loop-field-test.true) (only-field images begin old new (take i fields) field image c.image_at-image.ensures.value c.loop-field.invariant.only c.insert.ensures.only);
    }
