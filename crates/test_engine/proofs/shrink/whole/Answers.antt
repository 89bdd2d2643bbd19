use Rattle.std.proofs.Common.{◌≡◌, length, subst, sym, arith}
use Rattle.ct_core.specs.declared.unsat_core.UnsatCore.{UnsatCore}
use Rattle.ct_engine.specs.Verdict.{IsRefutation}
use Rattle.ct_shrink.specs.Shrunk.{IsCoreOf}
use Rattle.test_engine.proofs.ShrinkLemmas.{AreUpTo, whole_core}
use Rattle.test_engine.proofs.shrink.whole.Goals as goal

pub returns : goal.returns
returns c =
    let d = c.args.sig.now in
    let table = c.args.formulas.now.table.value in
    let asserts = c.args.formulas.now.asserts.items in
    let places = c.loop-place.places.items in
    let long : c.loop-place.place ≡ length asserts = omega (arith, c.loop-place-test.false, c.loop-place.auto.place-end, c.len-place-end.ensures) in
    let refutation : IsRefutation d table asserts c.into_inner.result = subst (IsRefutation d table asserts) (sym c.into_inner.ensures) c.requires.refutation in
    record {
      core = subst (λ (core : UnsatCore). IsCoreOf d table asserts core.places.items core.derivation) (sym c.in_ok-new.ensures.ok)
          (whole_core d table asserts places c.into_inner.result (subst (λ n. AreUpTo n places) long c.loop-place.invariant) refutation);
    }
