use Rattle.std.proofs.Common.{◌≡◌, ℕ, List, [], ◌∷◌, ◌++◌, Some, slice_get, sym, ap, subst, ◌∙◌, arith}
use Rattle.ct_lemmas.proofs.Prefixes.{take-slice_get_next, take-past}
use Rattle.ct_generics.specs.Names.{IsListed}
use Rattle.ct_generics.proofs.CopyLemmas.{new_after}
use Rattle.ct_generics.proofs.names.Names.copy.Goals as goal

pub push-requires : goal.push-requires
push-requires c =
    let i = c.loop-i.i in
    let names = c.args.self.now in
    let at : slice_get names i ≡ Some c.in_ok-name.name = c.name.ensures.value ∙ ap Some (sym c.in_ok-name.ensures.ok) in
    record { fresh = subst (λ (copied : List (List ℕ)). IsListed copied c.in_ok-name.name → ⊥) (sym c.loop-i.invariant) (λ listed. new_after names i c.in_ok-name.name c.len-i-end.ensures.distinct at listed.0 listed.1) }

pub loop-i-preserved : goal.loop-i-preserved
loop-i-preserved c =
    let at : slice_get c.args.self.now c.loop-i.i ≡ Some c.in_ok-name.name = c.name.ensures.value ∙ ap Some (sym c.in_ok-name.ensures.ok) in
    c.in_ok-push.ensures.ok ∙ ap (λ (names : List (List ℕ)). names ++ c.in_ok-name.name ∷ []) c.loop-i.invariant ∙ sym (take-slice_get_next c.args.self.now c.loop-i.i c.in_ok-name.name at)

pub returns : goal.returns
returns c = record { ok = c.loop-i.invariant ∙ take-past c.loop-i.i c.args.self.now (omega (arith, c.loop-i-test.false, c.len-i-end.ensures.len)); err = tt }
