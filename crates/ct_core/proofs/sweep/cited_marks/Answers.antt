use Rattle.std.proofs.Common.{arith}
use Rattle.ct_core.proofs.SweepLemmas.{all_marked}
use Rattle.ct_core.proofs.sweep.cited_marks.Goals as goal

pub returns : goal.returns
returns c = record {
  marks =
      all_marked c.args.kept c.args.lines.now c.loop-i.marks.items c.loop-i.invariant.long c.loop-i.invariant.first c.loop-i.invariant.positive
      (λ index line from at h. c.loop-i.invariant.from index line (omega (arith, c.loop-i-test.false, from)) at h) c.loop-i.invariant.only;
}
