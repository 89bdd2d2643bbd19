use Rattle.std.proofs.Common.{◌∙◌, ap, arith, length, None}
use Rattle.std.proofs.lemmas.List.{length-replicate}
use Rattle.ct_explain.proofs.WritingLemmas.{IsGrown-none, IsGrown-then}
use Rattle.ct_explain.proofs.ExplainedLemmas.{AreDone-none}
use Rattle.ct_explain.proofs.RestLemmas.{numbers_next}
use Rattle.ct_explain.proofs.explain.write_needed.Goals as goal

pub loop-k-init : goal.loop-k-init
loop-k-init c = record {
  grown = IsGrown-none c.args.classes.now c.args.writer.now;
  long = ap length c.in_ok-done.ensures.items ∙ length-replicate _ None ∙ ap length c.merges-count.ensures.value;
  done = AreDone-none c.args.writer.now c.args.classes.now.merges c.in_ok-done.done.items _ c.in_ok-done.ensures.items;
  marked = λ j h. absurd (omega (arith, h));
}

pub loop-k-preserved : goal.loop-k-preserved
loop-k-preserved c = record {
  grown = IsGrown-then c.args.classes.now c.args.writer.now c.loop-k.writer c.write_next.new.writer c.loop-k.invariant.grown c.in_ok-write_next.ensures.grown;
  long = c.in_ok-write_next.ensures.long ∙ c.loop-k.invariant.long;
  done = c.in_ok-write_next.ensures.done;
  marked = numbers_next c.args.marks.now c.loop-k.done.items c.write_next.new.done.items c.loop-k.k c.in_ok-write_next.ensures.stays c.in_ok-write_next.ensures.marked c.loop-k.invariant.marked;
}

pub returns-clause-marked : goal.returns-clause-marked
returns-clause-marked c = λ k within.
    let count = ap length c.merges-count.ensures.value in
    c.loop-k.invariant.marked k (omega (arith, within, count, c.loop-k-test.false))
