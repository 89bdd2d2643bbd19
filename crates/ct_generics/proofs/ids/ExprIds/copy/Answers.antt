use Rattle.std.proofs.Common.{◌≡◌, ℕ, List, [], ◌∷◌, ◌++◌, Some, slice_get, sym, ap, subst, ◌∙◌, arith}
use Rattle.ct_lemmas.proofs.Prefixes.{take-slice_get_next, take-past}
use Rattle.ct_generics.specs.declared.nodes.ExprId.{ExprId}
use Rattle.ct_generics.proofs.CopyLemmas.{new_after}
use Rattle.ct_generics.proofs.ids.ExprIds.copy.Goals as goal

pub push-requires : goal.push-requires
push-requires c =
    let i = c.loop-i.i in
    let ids = c.args.self.now in
    record { fresh = subst (λ (copied : List ExprId). (k : ℕ) → slice_get copied k ≡ Some c.get.result → ⊥) (sym c.loop-i.invariant) (new_after ids i c.get.result c.len-i-end.ensures.different c.get.ensures.value) }

pub loop-i-preserved : goal.loop-i-preserved
loop-i-preserved c =
    c.in_ok-push.ensures.ok ∙ ap (λ (ids : List ExprId). ids ++ c.get.result ∷ []) c.loop-i.invariant ∙ sym (take-slice_get_next c.args.self.now c.loop-i.i c.get.result c.get.ensures.value)

pub returns : goal.returns
returns c = record { ok = c.loop-i.invariant ∙ take-past c.loop-i.i c.args.self.now (omega (arith, c.loop-i-test.false, c.len-i-end.ensures.len)); err = tt }
