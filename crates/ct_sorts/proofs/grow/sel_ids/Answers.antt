use Rattle.std.proofs.Common.{ℕ, ◌+◌, List, [], ◌∷◌, ◌++◌, refl, sym, ◌∙◌, ap}
use Rattle.std.proofs.lemmas.List.FromFn.{map-range_with_len_more}
use Rattle.ct_sorts.specs.declared.ids.SelId.{SelId}
use Rattle.ct_sorts.proofs.grow.sel_ids.Goals as goal

pub loop-step-preserved : goal.loop-step-preserved
loop-step-preserved c =
    let id : ℕ → SelId = λ n. record { 0 = n } in
    c.in_ok-push.ensures.items ∙ ap (λ (ids : List SelId). ids ++ id (c.args.first + c.loop-step.step) ∷ []) c.loop-step.invariant ∙ sym (map-range_with_len_more id c.args.first c.loop-step.step (c.args.first + c.loop-step.step) refl)
