use Rattle.std.proofs.Common.{subst, arith}
use Rattle.ct_generics.specs.Occurrence.{ArePartMarks}
use Rattle.ct_generics.proofs.occurring.mark_parts.Goals as goal

pub loop-step-preserved : goal.loop-step-preserved
loop-step-preserved c =
    let nodes = c.args.template.now in
    record {
      long = omega (arith, c.mark_node_parts.auto.marks, c.loop-step.invariant.long);
      marks = λ row before.
          subst (λ n. ArePartMarks nodes row n c.mark_node_parts.new.marks) (omega (arith, c.len-count.ensures.len, c.loop-step-test.true)) (c.mark_node_parts.ensures.marks row (subst (λ n. ArePartMarks nodes row n c.loop-step.marks) (omega (arith, c.len-count.ensures.len, c.loop-step-test.true)) (c.loop-step.invariant.marks row before)));
    }
