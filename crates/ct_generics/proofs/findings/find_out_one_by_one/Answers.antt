use Rattle.std.proofs.Common.{◌+◌, arith}
use Rattle.ct_generics.proofs.findings.find_out_one_by_one.Goals as goal

pub loop-h-init : goal.loop-h-init
loop-h-init c hs all = c.no_findings-all.ensures.found c.args.first hs

pub loop-h-preserved : goal.loop-h-preserved
loop-h-preserved c hs all =
    c.joined-all.ensures.found c.args.first c.loop-h.h (c.loop-h.h + 1) hs (omega (arith, c.loop-h.auto.h)) (omega arith) (c.loop-h.invariant hs all) (c.in_ok-one.ensures.found hs all)
