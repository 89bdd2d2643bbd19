use Rattle.std.proofs.Common.{arith}
use Rattle.ct_closure.proofs.GrowthLemmas.{step_none, step_then, longer}
use Rattle.ct_closure.proofs.steps.go_on.Goals as goal

pub loop-alloc-init : goal.loop-alloc-init
loop-alloc-init c = record {
  step = step_none c.args.sig.now c.args.table.now c.requires.sound;
  few = c.requires.few;
  within = c.requires.within;
  under_way = c.requires.under_way;
}

pub loop-alloc-preserved : goal.loop-alloc-preserved
loop-alloc-preserved c = record {
  step = step_then c.args.sig.now c.args.table.now c.loop-alloc.table c.take_next.new.table c.loop-alloc.invariant.step c.take_next.ensures.step;
  few = c.in_ok-take_next.ensures.few;
  within = omega (arith, c.in_ok-take_next.ensures.long, longer c.loop-alloc.table c.take_next.new.table c.take_next.ensures.step.grown, c.loop-alloc-test.true, c.len.ensures, c.len-in-loop-alloc.ensures.count, c.loop-alloc.marks.ok.0);
  under_way = c.in_ok-take_next.ensures.under_way;
}
