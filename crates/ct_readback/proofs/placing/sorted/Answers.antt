use Rattle.std.proofs.Common.{◌≡◌, ℕ, ◌∷◌, [], ◌++◌, Bool, List, cond, take, get_or, sym, ap, ◌∙◌, append-nil, arith}
use Rattle.std.specs.List.{filter}
use Rattle.std.proofs.lemmas.List.{take_all}
use Rattle.std.proofs.lemmas.List.Elements.{filter_more}
use Rattle.ct_readback.specs.Descent.{has_some}
use Rattle.ct_readback.proofs.placing.sorted.Goals as goal

pub loop-point-preserved-then-not-is_sorted : goal.loop-point-preserved-then-not-is_sorted
loop-point-preserved-then-not-is_sorted c =
    let points = c.args.points.now in
    let i = c.loop-point.point-index in
    let test = has_some c.args.sorts.now in
    let point = get_or points i 0 in
    c.loop-point.invariant ∙ sym (filter_more test points i 0 c.loop-point-test.true ∙ ap (λ (b : Bool). filter test (take i points) ++ cond b (point ∷ []) []) (sym c.is_sorted.ensures.value ∙ c.if-not-is_sorted.true) ∙ append-nil (filter test (take i points)))

pub loop-point-preserved : goal.loop-point-preserved
loop-point-preserved c =
    let points = c.args.points.now in
    let i = c.loop-point.point-index in
    let test = has_some c.args.sorts.now in
    let point = get_or points i 0 in
    c.in_ok-push.ensures.items ∙ ap (λ (l : List ℕ). l ++ point ∷ []) c.loop-point.invariant
    ∙ sym (filter_more test points i 0 c.loop-point-test.true ∙ ap (λ (b : Bool). filter test (take i points) ++ cond b (point ∷ []) []) (sym c.is_sorted.ensures.value ∙ c.if-not-is_sorted.false))
