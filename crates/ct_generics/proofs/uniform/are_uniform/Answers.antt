use Rattle.std.proofs.Common.{◌≡◌, slice_get, refl, sym, ap, subst, ◌∙◌, ⊎_elim, arith}
use Rattle.std.proofs.lemmas.Bool.{true≢false, false≢true}
use Rattle.std.proofs.lemmas.Option.{same_Some, slice_get_within}
use Rattle.ct_lemmas.proofs.Numbers.{last_or_before}
use Rattle.ct_lemmas.proofs.Pairs.{AllZip-at_left, AllZip-one_length}
use Rattle.ct_generics.specs.Stored.{IsStored}
use Rattle.ct_generics.specs.Uniform.{IsUniform}
use Rattle.ct_generics.proofs.uniform.are_uniform.Goals as goal

pub returns-then-not-branch-clause-uniform : goal.returns-then-not-branch-clause-uniform
returns-then-not-branch-clause-uniform c hs all = (
  λ h. absurd (false≢true h),
  λ uniform.
      let found = AllZip-at_left IsStored c.args.heads.now hs c.loop-h.h c.stored_head.result.now all c.stored_head.ensures.value in
      absurd (true≢false (sym ((c.in_ok-is_uniform.ensures.uniform found.0 found.2).1 (uniform c.loop-h.h found.0 (omega (arith, c.loop-h.auto.h)) found.1)) ∙ c.if-not-branch.true)),
)

pub loop-h-preserved : goal.loop-h-preserved
loop-h-preserved c hs k head all ge less at =
    ⊎_elim (λ before. c.loop-h.invariant hs k head all ge before at)
    (λ last.
    let found = AllZip-at_left IsStored c.args.heads.now hs c.loop-h.h c.stored_head.result.now all c.stored_head.ensures.value in
    let same : found.0 ≡ head = same_Some found.0 head (sym found.1 ∙ ap (slice_get hs) (sym last) ∙ at) in
    subst (IsUniform c.args.first) same ((c.in_ok-is_uniform.ensures.uniform found.0 found.2).0 c.if-not-branch.false)) (last_or_before k c.loop-h.h less)

pub returns-clause-uniform : goal.returns-clause-uniform
returns-clause-uniform c hs all =
    (λ _ h head ge at. c.loop-h.invariant hs h head all ge (omega (arith, slice_get_within hs h head at, AllZip-one_length IsStored c.args.heads.now hs all, c.loop-h-test.false)) at, λ _. refl)
