use Rattle.ct_values.proofs.PostorderLemmas.{pushed-visit, pushed-none}
use Rattle.ct_values.proofs.postorder.push_unmet.Goals as goal

pub loop-n-preserved-then-met-n : goal.loop-n-preserved-then-met-n
loop-n-preserved-then-met-n c = pushed-none _ _ _ _ _ _ _ c.in-Some.ensures.steps c.loop-n.invariant

pub loop-n-preserved : goal.loop-n-preserved
loop-n-preserved c = pushed-visit _ _ _ _ _ _ c.loop-n.stack.items c.push.new.self.items c.in-Some.ensures.steps c.in_ok-push.ensures.items c.loop-n.invariant
