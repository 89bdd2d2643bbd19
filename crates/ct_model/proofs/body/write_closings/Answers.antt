use Rattle.std.proofs.Common.{◌≡◌, ◌++◌, ◌∷◌, [], sym, ap, ◌∙◌, arith, append_assoc, append-nil}
use Rattle.ct_model.specs.Opening.{closings}
use Rattle.ct_model.proofs.WrittenLemmas.{closings-more}
use Rattle.ct_model.proofs.body.write_closings.Goals as goal

pub loop-init : goal.loop-init
loop-init c = sym (append-nil c.args.out.now.items)

pub loop-preserved : goal.loop-preserved
loop-preserved c =
    let old = c.args.out.now.items in
    let n = c.loop.counter in
    c.in_ok-push.ensures.items
    ∙ ap (λ w. w ++ 41 ∷ []) c.loop.invariant
    ∙ append_assoc old (closings n) (41 ∷ [])
    ∙ ap (λ w. old ++ w) (sym (closings-more n))

pub returns : goal.returns
returns c =
    let all : c.loop.counter ≡ c.args.count = omega arith in
    record { ok = c.loop.invariant ∙ ap (λ n. c.args.out.now.items ++ closings n) all }
