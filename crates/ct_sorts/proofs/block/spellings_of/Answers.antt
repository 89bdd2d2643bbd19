use Rattle.std.proofs.Common.{◌≡◌, List, ◌++◌, [], ◌∷◌, map, take, sym, ◌∙◌, ap}
use Rattle.ct_sorts.specs.declared.spelling.Spelling.{Spelling}
use Rattle.ct_sorts.specs.Block.{spelling}
use Rattle.ct_sorts.proofs.PushLemmas.{map-take_more}
use Rattle.ct_sorts.proofs.block.spellings_of.Goals as goal

pub loop-ctor-preserved : goal.loop-ctor-preserved
loop-ctor-preserved c =
    let made : record { name = c.in_ok-name.name; fields = c.in_ok-fields.fields } ≡ spelling c.ctor-item.result = λ i. record { name = (c.in_ok-name.ensures.ok ∙ c.as_slice.ensures.value) i; fields = c.in_ok-fields.ensures.ok i } in
    c.in_ok-push.ensures.items
    ∙ ap (λ (xs : List Spelling). xs ++ record { name = c.in_ok-name.name; fields = c.in_ok-fields.fields } ∷ []) c.loop-ctor.invariant
    ∙ ap (λ (x : Spelling). map spelling (take c.loop-ctor.ctor-index c.args.ctors.now) ++ x ∷ []) made
    ∙ sym (map-take_more spelling c.args.ctors.now c.loop-ctor.ctor-index c.ctor-item.result c.loop-ctor-test.true c.ctor-item.is)
