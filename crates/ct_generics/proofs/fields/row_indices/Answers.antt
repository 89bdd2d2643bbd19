use Rattle.std.proofs.Common.{◌≡◌, ◌+◌, List, [], ◌∷◌, ◌++◌, take, sym, ap, subst, ◌∙◌, arith}
use Rattle.std.proofs.lemmas.List.{take_more}
use Rattle.ct_lemmas.proofs.Prefixes.{take-past}
use Rattle.ct_generics.specs.declared.nodes.ExprId.{ExprId}
use Rattle.ct_generics.specs.Images.{IsRowImage}
use Rattle.ct_generics.proofs.NodeLemmas.{Stay-trans}
use Rattle.ct_generics.proofs.ImageLemmas.{AddsOnly, rows-push, only-row}
use Rattle.ct_generics.proofs.fields.row_indices.Goals as goal

pub loop-fields-preserved : goal.loop-fields-preserved
loop-fields-preserved c =
    let i = c.loop-fields.fields-index in
    let rows = c.args.rows.now in
    let images = c.args.images.now in
    let begin = c.args.ids.now in
    let old = c.loop-fields.ids in
    let new = c.field_indices.new.ids in
    let row = c.fields-item.result in
    let more : take (i + 1) rows ≡ take i rows ++ row ∷ [] = take_more rows i row c.loop-fields-test.true ∙ ap (λ r. take i rows ++ r ∷ []) (sym c.fields-item.is) in
    record {
      stay = Stay-trans begin old new c.loop-fields.invariant.stay c.field_indices.ensures.stay;
      rows = rw (c.in_ok-push.ensures.items, c.new.ensures.value, more) (rows-push images old new c.loop-fields.all.items (take i rows) c.in_ok-indices.indices.items row c.field_indices.ensures.stay c.loop-fields.invariant.rows (rw c.as_slice.ensures.value at c.in_ok-indices.ensures.fields));
      only = rw more (only-row images begin old new (take i rows) row c.loop-fields.invariant.only (rw c.as_slice.ensures.value at c.in_ok-indices.ensures.only));
    }

pub returns-clause-only : goal.returns-clause-only
returns-clause-only c =
    let rows = c.args.rows.now in
    subst (λ (all : List (List ExprId)). AddsOnly c.args.ids.now c.loop-fields.ids (IsRowImage c.args.images.now all)) (take-past c.loop-fields.fields-index rows (omega (arith, c.loop-fields-test.false))) c.loop-fields.invariant.only
