use Rattle.std.proofs.Common.{List, [], ◌∷◌, ◌++◌, ap, ◌∙◌}
use Rattle.ct_occurrence.specs.declared.under_way.Frame.{Frame}
use Rattle.ct_occurrence.proofs.under_way.wait_for.Goals as goal

pub returns : goal.returns
returns c =
    let above = c.in_ok-above.above in
    record { pushed = (above, c.in_ok-push-2.ensures.items ∙ ap (λ (fs : List Frame). fs ++ above ∷ []) c.in_ok-push.ensures.items, c.in_ok-above.ensures.begins) }
