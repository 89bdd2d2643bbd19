use Rattle.std.proofs.Common.{◌≡◌, ◌+◌, [], ◌∷◌, ◌++◌, take, sym, ap, ◌∙◌}
use Rattle.std.specs.List.{AllZip}
use Rattle.std.proofs.lemmas.List.{take_more}
use Rattle.ct_lemmas.proofs.Pairs.{AllZip-push}
use Rattle.ct_generics.specs.Images.{IsImage}
use Rattle.ct_generics.proofs.rows.images_of_rows.Goals as goal

pub loop-fields-preserved : goal.loop-fields-preserved
loop-fields-preserved c =
    let i = c.loop-fields.fields-index in
    let rows = c.args.rows.now in
    let row = c.fields-item.result in
    let more : take (i + 1) rows ≡ take i rows ++ row ∷ [] = take_more rows i row c.loop-fields-test.true ∙ ap (λ r. take i rows ++ r ∷ []) (sym c.fields-item.is) in
    rw (c.in_ok-push.ensures.items, c.new.ensures.value, more) (AllZip-push (AllZip (IsImage c.args.images.now)) c.loop-fields.all.items (take i rows) c.in_ok-row.row.items row c.loop-fields.invariant (rw c.as_slice.ensures.value at c.in_ok-row.ensures.images))
