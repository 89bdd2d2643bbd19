use Rattle.std.proofs.Common.{refl, sym, subst, ◌∙◌, ap, ⊎_elim, slice_get, arith}
use Rattle.std.proofs.lemmas.Bool.{false≢true}
use Rattle.std.proofs.lemmas.Option.{same_Some, slice_get_within}
use Rattle.ct_lemmas.proofs.Numbers.{last_or_before}
use Rattle.ct_generics.specs.Lengths.{IsLongAt}
use Rattle.ct_generics.proofs.findings.has_long.Goals as goal

pub returns-then-is_long : goal.returns-then-is_long
returns-then-is_long c = record { long = (λ _. (c.loop-i.i, c.get.result, c.get.ensures.value, c.is_long.ensures.long.0 c.if-is_long.true), λ _. refl) }

pub loop-i-preserved : goal.loop-i-preserved
loop-i-preserved c k id less at long =
    ⊎_elim (λ before. c.loop-i.invariant k id before at long)
    (λ last.
    let same = same_Some c.get.result id (sym c.get.ensures.value ∙ ap (slice_get c.args.ids.now) (sym last) ∙ at) in
    false≢true (sym c.if-is_long.false ∙ c.is_long.ensures.long.1 (subst (IsLongAt c.args.counts.now) (sym same) long))) (last_or_before k c.loop-i.i less)

pub returns : goal.returns
returns c =
    record {
      long = (
        λ h. absurd (false≢true h),
        λ found. absurd (c.loop-i.invariant found.0 found.1 (omega (arith, slice_get_within c.args.ids.now found.0 found.1 found.2, c.loop-i-test.false, c.len-i-end.ensures.len)) found.2 found.3),
      );
    }
