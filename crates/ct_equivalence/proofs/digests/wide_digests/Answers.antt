use Rattle.std.proofs.Common.{◌+◌, ◌∷◌, [], length, ap, sym, subst, arith, length-append}
use Rattle.ct_terms.specs.Terms.{HasArgumentsBelow}
use Rattle.ct_equivalence.proofs.DigestLemmas.{AreDigestsBelow, AreDigestsBelow-none, AreDigestsBelow-more, AreDigests-all}
use Rattle.ct_equivalence.proofs.digests.wide_digests.Goals as goal

pub wide_digest-requires : goal.wide_digest-requires
wide_digest-requires c = record { inside = subst (λ n. HasArgumentsBelow n c.core.result.now) (sym c.requires.long) c.core.ensures.inside }

pub loop-t-init : goal.loop-t-init
loop-t-init c = record { long = ap length c.in_ok-digests.ensures.items; digests = AreDigestsBelow-none c.args.table.now c.args.reps.now c.in_ok-digests.digests.items }

pub loop-t-preserved : goal.loop-t-preserved
loop-t-preserved c =
    let terms = c.args.table.now in
    let reps = c.args.reps.now in
    let ds = c.loop-t.digests.items in
    let pushed = c.in_ok-push.ensures.items in
    let inv = c.loop-t.invariant in
    record {
      long = omega (arith, ap length pushed, length-append ds (c.wide_digest.result ∷ []), inv.long);
      digests = subst (AreDigestsBelow terms reps (c.loop-t.t + 1)) (sym pushed) (AreDigestsBelow-more terms reps (record { 0 = c.loop-t.t }) c.core.result.now ds c.wide_digest.result c.core.ensures.value inv.long c.wide_digest.ensures.value inv.digests);
    }

pub returns : goal.returns
returns c = record { digests = AreDigests-all c.args.table.now c.args.reps.now c.loop-t.t c.loop-t.digests.items (omega (arith, c.loop-t-test.false, c.len-t-end.ensures.count)) c.loop-t.invariant.digests }
