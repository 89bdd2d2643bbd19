use Rattle.std.proofs.Common.{arith}
use Rattle.std.proofs.lemmas.Option.{slice_get-get_or, slice_get_within}
use Rattle.ct_base.proofs.RootLemmas.{roots_step}
use Rattle.ct_base.proofs.growing.equal_roots.Goals as goal

pub loop-count-preserved : goal.loop-count-preserved
loop-count-preserved c =
    let roots = c.args.roots.now in
    let asserts = c.args.asserts.now in
    let count = c.loop-count.count in
    let stands = c.is_number.ensures.number c.if-not-is_number.false in
    record {
      within = omega (arith, c.loop-count-test.true);
      few = omega (arith, c.if-count-asserts.true);
      common = λ table from are.
          roots_step table from roots asserts count _ _ (c.loop-count.invariant.common table from are) (slice_get-get_or roots count _ c.loop-count-test.true) (slice_get-get_or asserts count _ c.if-count-asserts.true)
          (are _ _ (slice_get_within c.args.numbers.now _ _ stands) stands).tree;
    }
