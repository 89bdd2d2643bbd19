use Rattle.std.proofs.Common.{◌≡◌, refl, subst, arith}
use Rattle.ct_equivalence.specs.Partition.{AreAlone}
use Rattle.ct_equivalence.proofs.BeginningLemmas.{AreAlone-none, AreAlone-push}
use Rattle.ct_equivalence.proofs.alone.own_representatives.Goals as goal

pub loop-t-init : goal.loop-t-init
loop-t-init c = AreAlone-none c.in_ok-reps.reps.items c.in_ok-reps.ensures.items

pub loop-t-preserved : goal.loop-t-preserved
loop-t-preserved c =
    rw c.in_ok-push.ensures.items
    (AreAlone-push c.loop-t.t c.loop-t.reps.items (record { 0 = c.loop-t.t }) refl c.loop-t.invariant)

pub returns : goal.returns
returns c =
    let e : c.loop-t.t ≡ c.args.count = omega arith in
    record { alone = subst (λ n. AreAlone n c.loop-t.reps.items) e c.loop-t.invariant }
