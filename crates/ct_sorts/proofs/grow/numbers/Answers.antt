use Rattle.std.proofs.Common.{◌≡◌, ℕ, Some, slice_get, take, ◌++◌, [], ◌∷◌, sym, subst, subst₂}
use Rattle.std.specs.List.{AllZip}
use Rattle.std.proofs.lemmas.List.{take_more}
use Rattle.ct_generics.specs.declared.nodes.ExprId.{ExprId}
use Rattle.ct_sorts.specs.declared.ids.SortId.{SortId}
use Rattle.ct_sorts.proofs.PushLemmas.{AllZip-push}
use Rattle.ct_sorts.proofs.grow.numbers.Goals as goal

pub loop-id-preserved : goal.loop-id-preserved
loop-id-preserved c =
    let R = λ (s : SortId) (id : ExprId). slice_get c.args.sorts.now s.0 ≡ Some id in
    subst₂ (λ xs ys. AllZip R xs ys) (sym c.in_ok-push.ensures.items) (sym (take_more c.args.ids.now c.loop-id.id-index _ c.loop-id-test.true))
    (AllZip-push R c.loop-id.numbers.items (take c.loop-id.id-index c.args.ids.now) c.number.result _ c.loop-id.invariant c.number.ensures.at)
